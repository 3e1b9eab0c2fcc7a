-- Marks of the names that children with a field give for their parent.
use Rattle.std.specs.Prelude.{ℕ, ◌%◌, ◌<◌, ◌≡◌, List, Bool, true, false, length, get_or}
use Rattle.rules.specs.Table.{at}
use Rattle.rules.specs.PayloadFields.{child_with_field}
use Rattle.rules.specs.declared.Record.{Record}

-- where the mark of a declaration's name is false, no place below n is a child of it with a field; past the marks it counts as true
pub record NoChildWithField (rs : List Record) (marks : List Bool) (n : ℕ) : Type 0 where
  pub none : (d : ℕ) → get_or marks ((at rs d).name % 4093) true ≡ false → (c : ℕ) → c < n → child_with_field rs d c ≡ false

-- no place of the table
abbrev pub Parents : List Record → List Bool → Type 0
Parents rs marks = NoChildWithField rs marks (length rs)
