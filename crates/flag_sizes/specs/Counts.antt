-- Marks of the names that conditions give, so that fields of other names need no search, and the numbers of entries found.
use Rattle.std.specs.Prelude.{ℕ, ◌%◌, ◌<◌, ◌≤◌, ◌≡◌, List, [], length, get_or}
use Rattle.rules.specs.Table.{at}
use Rattle.rules.specs.DesugarFlags.{members_start, entries_from, entries_of}
use Rattle.rules.specs.declared.Record.{Record}

-- among the records from a on, up to the next declaration, no condition gives a name that has another stamp than a, by its remainder
pub record ConditionsStamped (rs : List Record) (marks : List ℕ) (a : ℕ) : Type 0 where
  pub long : 4093 ≤ length marks
  pub clear : (x : ℕ) → ¬ (get_or marks (x % 4093) 0 ≡ a) → [] ≡ entries_from rs x a

-- the entries made for the record at p
abbrev pub made_at : List Record → ℕ → List Record
made_at rs p = entries_of rs (at rs p) (members_start rs p)

-- how many entries are made for each record below n, by its place
pub record Counted (rs : List Record) (counts : List ℕ) (n : ℕ) : Type 0 where
  pub long : 1600 ≤ length counts
  pub known : (q : ℕ) → q < n → get_or counts q 0 ≡ length (made_at rs q)
