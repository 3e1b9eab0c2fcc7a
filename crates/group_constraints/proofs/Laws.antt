-- Constraints a step at a time: the stack, and what the constraint that holds makes of a record. Assumes nothing.
use Rattle.std.proofs.Common.{ℕ}
use Prim.Native.Nat.{ℕ, suc, zero, ◌+◌, ◌<◌, ◌≤◌}
use mathlib.Core.Path.{◌≡◌, refl}
use mathlib.Core.List.{List, [], ◌∷◌, ◌++◌, append_assoc}
use native.Mathlib.Omega.{arith}
use native.Mathlib.Numerals.{add-one}
use lib.ListN.{length, take, set}
use Rattle.std.proofs.Common.{find, reverse, get_or, Bool}
use Rattle.std.proofs.lemmas.List.{reverse-append}
use Rattle.std.proofs.lemmas.Grind.{common_steps}
use Rattle.rules.specs.Table.{at}
use Rattle.rules.specs.Places.{nearest}
use lib.Dec.{eqb}
use Rattle.std.specs.Prelude.{if◌then◌else◌}
use lib.Seq.{take-suc, take-suc-set, take-length}
use Rattle.rules.specs.InlineGroups.{entry_at, lookup, constraints}
use Rattle.rules.specs.declared.Record.{Record}
use Rattle.table.proofs.Laws.{left-suc, left-none}
use Rattle.group_constraints.specs.Constraints.{constraints_from}

-- ---- the constraints of a field

pub constraints-next : (rs : List Record) (p : ℕ) → p < length rs
    → constraints_from rs p ≡ (if eqb (at rs p).kind 10 then p ∷ constraints_from rs (p + 1) else if eqb (at rs p).kind 11 then constraints_from rs (p + 1) else [])
unfolding constraints
constraints-next rs p h = rw (left-suc (length rs) p h, constraints)

pub constraints-end : (rs : List Record) (p : ℕ) → length rs ≤ p → constraints_from rs p ≡ []
unfolding constraints
constraints-end rs p h = rw (left-none (length rs) p h)

-- one that is put on the stack stands before those still to come
pub push-one : (env : List ℕ) (m i : ℕ) (xs : List ℕ) → m < length env → take (m + 1) (set env m i) ++ xs ≡ take m env ++ i ∷ xs
push-one env m i xs h = rw (add-one m, take-suc-set env m i h, append_assoc (take m env) (i ∷ []) xs)

-- ---- the constraint that holds, and what it makes of a record

-- of the first n entries
find-nearest : (f : ℕ → Bool) (env : List ℕ) (n : ℕ) → n ≤ length env → find f (reverse (take n env)) ≡ entry_at env (nearest (λ i. f (get_or env i 0)) n)
unfolding nearest
find-nearest f env zero h = refl
find-nearest f env (suc n) h = last (find-nearest f env n (omega arith))
  where
    last : find f (reverse (take n env)) ≡ entry_at env (nearest (λ i. f (get_or env i 0)) n) → find f (reverse (take (suc n) env)) ≡ entry_at env (nearest (λ i. f (get_or env i 0)) (suc n))
    last r = rw (take-suc env n 0 (omega arith), reverse-append) (grind (arith, common_steps))

pub find-lookup : (rs : List Record) (env : List ℕ) (x : ℕ) → find (λ q. eqb (at rs q).name x) (reverse env) ≡ lookup rs env x
unfolding lookup
find-lookup rs env x = rw take-length at (find-nearest (λ q. eqb (at rs q).name x) env (length env) (omega arith))
