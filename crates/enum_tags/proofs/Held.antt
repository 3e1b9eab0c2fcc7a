-- Laws of the ranges that hold a value: their number, whatever their order. Assumes nothing.
use Prim.Native.Nat.{ℕ, zero, suc, ◌+◌}
use mathlib.Core.Path.{◌≡◌, refl, ap, ◌∙◌}
use mathlib.Core.List.{List, [], ◌∷◌, ◌++◌}
use mathlib.Core.Bool.{Bool, cond}
use native.Mathlib.Omega.{arith}
use Rattle.std.proofs.lemmas.Grind.{common_steps}
use Rattle.std.specs.List.{count_by}
use Rattle.std.proofs.lemmas.List.Sums.{sum_by-cons, sum_by-append}
use Rattle.rules.specs.Choice.{when}
use Rattle.rules.specs.Table.{at}
use Rattle.rules.specs.Places.{each}
use Rattle.rules.specs.Faults.{single}
use Rattle.rules.specs.Sorts.{insert, inserted, sorted}
use Rattle.rules.specs.EnumDeclarations.{holding, held_at, held, range_at, ranges, before_at}
use Rattle.rules.specs.declared.Record.{Record}
use Rattle.rules.specs.declared.Fault.{Fault}
use Rattle.table.proofs.Laws.{each_more}
use Rattle.enum_bounds.specs.Bounds.{holders, lows_of, highs_of, Bounds}

-- a list that is sorted
module _ (f : ℕ → Bool) (le : ℕ → ℕ → Bool) where
  count-insert : (x : ℕ) (ys : List ℕ) → count_by f (insert le x ys) ≡ cond (f x) 1 0 + count_by f ys
  unfolding insert
  count-insert x [] = grind (arith, common_steps, sum_by-cons)
  count-insert x (y ∷ ys) = let e = count-insert x ys in grind (arith, common_steps, sum_by-cons)

  count-inserted : (ys xs : List ℕ) → count_by f (inserted le ys xs) ≡ count_by f ys + count_by f xs
  unfolding inserted
  count-inserted ys [] = omega arith
  count-inserted ys (x ∷ xs) = let e = count-inserted (insert le x ys) xs in let i = count-insert x ys in grind (arith, common_steps, sum_by-cons)

  count-sorted : (xs : List ℕ) → count_by f (sorted le xs) ≡ count_by f xs
  unfolding sorted
  count-sorted xs = count-inserted [] xs ∙ omega arith

module _ (rs : List Record) where
  holders-at : (v : ℕ) (qs : List ℕ) → holders v (lows_of rs qs) (highs_of rs qs) ≡ count_by (λ q. holding (at rs q) v) qs
  holders-at v [] = refl
  holders-at v (q ∷ qs) = let e = holders-at v qs in grind (arith, common_steps, sum_by-cons)

  -- as many faults as there are ranges that hold the value
  times_more : (p q c : ℕ) → each (λ _. single 43 (at rs p) ∷ []) (c + count_by (λ q. holding (at rs q) (at rs p).one) (range_at rs q))
      ≡ each (λ _. single 43 (at rs p) ∷ []) c ++ held_at rs p q
  unfolding held_at when
  times_more p q c = let m = each_more (λ _. single 43 (at rs p) ∷ []) c in grind (arith, common_steps, sum_by-cons)

  times : (d n p : ℕ) → each (λ _. single 43 (at rs p) ∷ []) (count_by (λ q. holding (at rs q) (at rs p).one) (ranges rs d n)) ≡ held rs d n p
  unfolding ranges held each
  times d zero p = refl
  times d (suc n) p =
      ap (each (λ _. single 43 (at rs p) ∷ []))
      (sum_by-append (λ q. cond (holding (at rs q) (at rs p).one) 1 0) (each (λ i. range_at rs (d + 1 + i)) n) (range_at rs (d + 1 + n)))
      ∙ times_more p (d + 1 + n) _
      ∙ ap (λ (xs : List Fault). xs ++ held_at rs p (d + 1 + n)) (times d n p)

  module _ (d n : ℕ) (lows highs : List ℕ) (b : Bounds rs d n lows highs) where
    pub held_all : (p : ℕ) → each (λ _. single 43 (at rs p) ∷ []) (holders (at rs p).one lows highs) ≡ held rs d n p
    held_all p = rw (b.low, b.high, holders-at (at rs p).one (sorted (before_at rs) (ranges rs d n)), count-sorted (λ q. holding (at rs q) (at rs p).one) (before_at rs) (ranges rs d n)) (times d n p)
