-- What the contract of pass 2 says: what the faults are, and what the records copied.
use Rattle.std.specs.Prelude.{◌≡◌, ℕ, ◌<◌, ◌≤◌, length, take, drop, Ok, Err, Result}
use mathlib.Core.List.{List, Memᴰ}
use Rattle.rules.specs.Faults.{log, logged}
use Rattle.rules.specs.DeclIdentifiers.{pass2, ordered, all_records}
use Rattle.rules.specs.Ordering.{Accepts}
use Rattle.rules.specs.declared.Record.{Record}
use Rattle.rules.specs.declared.Tally.{Tally}
use Rattle.faults.specs.Notes.{no_faults}

-- the declarations at these places stand in the table, and their records fit into a buffer
pub record Placed (rs : List Record) (l : List ℕ) (out : List Record) : Type 0 where
  pub within : (d : ℕ) → Memᴰ d l → d < length rs
  pub fits : length (all_records rs l) ≤ length out

-- the n listed records stand at the start of the buffer, which is unchanged behind them
pub record ListedAtStart (rs out out' : List Record) (n : ℕ) : Type 0 where
  pub count : n ≡ length (ordered rs)
  pub short : n ≤ length rs
  pub records : take n out' ≡ ordered rs
  pub rest : drop n out' ≡ drop n out

-- the faults of pass 2; if there are none, the listed table, else the buffer as it was
abbrev pub DeclIdentifiersChecked : List Record → List ℕ → List Record → List ℕ → List Record → Result ℕ Tally → Type 0
DeclIdentifiersChecked rs buffer out buffer' out' (Ok n) =
    Accepts rs × (log no_faults buffer' ≡ logged buffer (pass2 rs)) × ListedAtStart rs out out' n
DeclIdentifiersChecked rs buffer out buffer' out' (Err y) =
    ¬ (Accepts rs) × (log y buffer' ≡ logged buffer (pass2 rs)) × (out' ≡ out)
