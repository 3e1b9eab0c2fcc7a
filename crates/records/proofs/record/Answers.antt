-- `records::record` meets its contract. Assumes nothing.
use Prim.Native.Nat.{ℕ, ◌+◌}
use mathlib.Core.Path.{◌≡◌, refl, sym, ◌∙◌}
use mathlib.Core.List.{List}
use lib.ListN.{get_or}
use Rattle.rules.specs.Bytes.{number_at}
use Rattle.rules.specs.Table.{record_at}
use Rattle.records.proofs.record.Goals as goal

-- an equation for each field, so that a wrong one is refused by its own
by-fields : (t : List ℕ) (i : ℕ) {k m n s u a b y x z : ℕ}
    → k ≡ get_or t i 0 → m ≡ get_or t (i + 1) 0 → n ≡ number_at t (i + 2) 2 → s ≡ number_at t (i + 4) 2 → u ≡ number_at t (i + 6) 2
    → a ≡ number_at t (i + 8) 8 → b ≡ number_at t (i + 16) 8 → y ≡ number_at t (i + 24) 2 → x ≡ number_at t (i + 28) 4 → z ≡ number_at t (i + 32) 4
    → record { kind = k; marks = m; name = n; second = s; third = u; one = a; two = b; key = y; start = x; end = z } ≡ record_at t i
by-fields t i k m n s u a b y x z = rw (k, m, n, s, u, a, b, y, x, z)

pub returns : goal.returns
returns c =
    by-fields _ _ refl refl c.number2.ensures c.number2-2.ensures c.number2-3.ensures c.number8.ensures
    c.number8-2.ensures c.number2-4.ensures c.number4.ensures c.number4-2.ensures
    ∙ sym c.base-i.ensures.1
