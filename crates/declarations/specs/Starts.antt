-- Where the search for the declaration of a name may start.
use Rattle.std.specs.Prelude.{ℕ, ◌%◌, ◌≡◌, List, get_or}
use Rattle.rules.specs.Places.{first_from}
use Rattle.rules.specs.declared.Record.{Record}
use Rattle.rules.specs.declared.Target.TheVariants.{DeclNamed}

-- no declaration from p on stands before the start for its name, by remainder; past the starts it is place 0
pub record StartsFrom (rs : List Record) (starts : List ℕ) (p : ℕ) : Type 0 where
  pub skips : (x : ℕ) → first_from rs (DeclNamed x) p ≡ first_from rs (DeclNamed x) (get_or starts (x % 4093) 0)

-- of the whole table
abbrev pub Starts : List Record → List ℕ → Type 0
Starts rs starts = StartsFrom rs starts 0
