-- One bound more of those that are filled. Assumes nothing.
use Prim.Native.Nat.{ℕ, ◌+◌, ◌<◌}
use mathlib.Core.Path.{◌≡◌}
use mathlib.Core.List.{List, map, map-append}
use native.Mathlib.Numerals.{add-one}
use lib.ListN.{length, get_or, take, set}
use lib.Seq.{take-suc, take-suc-set}

pub bounds-more : (g : ℕ → ℕ) (l qs : List ℕ) (j : ℕ) → j < length l → j < length qs → take j l ≡ map g (take j qs)
    → take (j + 1) (set l j (g (get_or qs j 0))) ≡ map g (take (j + 1) qs)
bounds-more g l qs j h k e = rw (add-one, take-suc-set l j _ h, take-suc qs j 0 k, map-append, e)
