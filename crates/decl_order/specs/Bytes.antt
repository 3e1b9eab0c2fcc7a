-- What the contract of pass 2 on the bytes of a table says: the bytes copied.
use Rattle.std.specs.Prelude.{◌≡◌, ℕ, ◌+◌, ◌*◌, ◌<◌, ◌≤◌, length, take, drop, Ok, Err, Result}
use mathlib.Core.List.{List, [], ◌∷◌, ◌++◌, Memᴰ}
use Rattle.rules.specs.Bytes.{written}
use Rattle.rules.specs.Table.{decode}
use Rattle.rules.specs.Places.{member_count}
use Rattle.rules.specs.Faults.{log, logged}
use Rattle.rules.specs.DeclIdentifiers.{pass2, order, ordered, all_records}
use Rattle.rules.specs.Ordering.{Accepts}
use Rattle.rules.specs.declared.Record.{Record}
use Rattle.rules.specs.declared.Tally.{Tally}
use Rattle.faults.specs.Notes.{no_faults}

-- the bytes of the declarations at these places, in this order, unchanged
unfoldable pub decl_bytes : List ℕ → ℕ → List ℕ
decl_bytes t d = take (40 * (1 + member_count (decode t) d)) (drop (40 * d) t)

unfoldable pub all_bytes : List ℕ → List ℕ → List ℕ
all_bytes t [] = []
all_bytes t (d ∷ ds) = decl_bytes t d ++ all_bytes t ds

-- the declarations at these places stand in the table, and the bytes of their records fit into a buffer
pub record BytesPlaced (rs : List Record) (l out : List ℕ) : Type 0 where
  pub within : (d : ℕ) → Memᴰ d l → d < length rs
  pub fits : 40 * length (all_records rs l) ≤ length out

-- the bytes of the n listed records stand at the start of the buffer, which is unchanged behind them
pub record BytesAtStart (t out out' : List ℕ) (n : ℕ) : Type 0 where
  pub count : n ≡ length (ordered (decode t))
  pub short : n ≤ length (decode t)
  pub bytes : out' ≡ written out 0 (all_bytes t (order (decode t)))
  pub records : decode (take (40 * n) out') ≡ ordered (decode t)

-- the faults of pass 2; if there are none, the bytes of the listed table, else the buffer as it was
abbrev pub BytesChecked : List ℕ → List ℕ → List ℕ → List ℕ → List ℕ → Result ℕ Tally → Type 0
BytesChecked t buffer out buffer' out' (Ok n) =
    Accepts (decode t) × (log no_faults buffer' ≡ logged buffer (pass2 (decode t))) × BytesAtStart t out out' n
BytesChecked t buffer out buffer' out' (Err y) =
    ¬ (Accepts (decode t)) × (log y buffer' ≡ logged buffer (pass2 (decode t))) × (out' ≡ out)
