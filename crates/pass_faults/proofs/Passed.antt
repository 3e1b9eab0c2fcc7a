-- What is listed place by place stays the same where nothing is listed. Assumes nothing.
use Prim.Native.Nat.{ℕ, zero, suc, ◌<◌, ◌≤◌}
use mathlib.Core.Path.{◌≡◌, ap, ◌∙◌}
use mathlib.Core.List.{List, [], ◌++◌, append-nil}
use native.Mathlib.Omega.{arith}
use native.Mathlib.Nat.{le_antisymm}
use native.Mathlib.Decide.{dec_le}
use Rattle.rules.specs.Places.{each}
use Rattle.rules.specs.declared.Fault.{Fault}

pub each-passed : (f : ℕ → List Fault) (a q : ℕ) → a ≤ q → ((i : ℕ) → a ≤ i → i < q → f i ≡ []) → each f q ≡ each f a
unfolding each
each-passed f a zero l h = ap (each f) {x = zero} {y = a} (omega arith)
each-passed f a (suc q) l h = go (dec_le a q) (λ m. each-passed f a q m (λ i u v. h i u (omega arith)))
  where
    go : Dec (a ≤ q) → (a ≤ q → each f q ≡ each f a) → each f (suc q) ≡ each f a
    go (yes m) r = ap (λ (x : List Fault). each f q ++ x) (h q m (omega arith)) ∙ append-nil _ ∙ r m
    go (no m) r = ap (each f) (le_antisymm (omega arith) l)
