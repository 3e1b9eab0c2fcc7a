-- Laws of ranges, one after the other: how many of them hold a value, and the places that a test splits. Assumes nothing.
use Rattle.std.proofs.Common.{leb}
use Prim.Native.Nat.{ℕ, zero, suc, ◌≤◌}
use mathlib.Core.Path.{◌≡◌}
use mathlib.Core.List.{List, [], ◌∷◌}
use mathlib.Core.Bool.{Bool, true, false}
use native.Mathlib.Omega.{arith}
use borrow.Author.Tests.{leb-true, le-leb}
use Rattle.std.proofs.lemmas.Grind.{common_steps}
use native.Mathlib.Nat.{not-suc-le-zero}
use lib.ListN.{length, take}
use Rattle.std.specs.List.{count_by}
use Rattle.std.specs.List.Sorted.{IsPartitionPoint}
use Rattle.std.proofs.lemmas.List.Sums.{sum_by-cons}
use Rattle.enum_bounds.specs.Bounds.{holders}

pub leb-trans : (x y z : ℕ) → leb x y ≡ true → leb y z ≡ true → leb x z ≡ true
leb-trans x y z h g = le-leb x z (omega (arith, leb-true x y h, leb-true y z g))

-- the test holds for those before k, and for none from k on
abbrev pub SplitsAt : {X : Type 0} → (X → Bool) → List X → ℕ → Type 0
SplitsAt f xs k = IsPartitionPoint (λ x. f x ≡ true) (λ x. f x ≡ false) xs k

pub splits-tail : {X : Type 0} (f : X → Bool) (x : X) (xs : List X) (k : ℕ) → SplitsAt f (x ∷ xs) (suc k) → SplitsAt f xs k
splits-tail f x xs k s = (λ i d h g. s.0 (suc i) d (omega arith) (omega arith), λ i d h g. s.1 (suc i) d (omega arith) (omega arith))

splits-none : {X : Type 0} (f : X → Bool) (x : X) (xs : List X) → SplitsAt f (x ∷ xs) 0 → SplitsAt f xs 0
splits-none f x xs s = (λ i d h g. absurd (not-suc-le-zero g), λ i d h g. s.1 (suc i) d (omega arith) (omega arith))

-- only ranges whose lesser bound is at most v hold it
pub holders-split : (v k : ℕ) (lows highs : List ℕ) → k ≤ length lows → length lows ≡ length highs → SplitsAt (λ x. leb x v) lows k
    → count_by (λ x. leb v x) (take k highs) ≡ holders v lows highs
holders-split v k [] highs h e s = grind (arith, common_steps)
holders-split v k (a ∷ lows) [] h e s = grind (arith, common_steps)
holders-split v zero (a ∷ lows) (b ∷ highs) h e s =
    let z = holders-split v zero lows highs in let x = splits-none (λ x. leb x v) a lows s in let y = s.1 0 0 in grind (arith, common_steps, sum_by-cons)
holders-split v (suc k) (a ∷ lows) (b ∷ highs) h e s =
    let z = holders-split v k lows highs in let x = splits-tail (λ x. leb x v) a lows k s in let y = s.0 0 0 in grind (arith, common_steps, sum_by-cons)
