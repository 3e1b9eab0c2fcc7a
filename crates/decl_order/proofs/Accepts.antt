-- Visits of faultless declarations find no fault. Assumes nothing.
use Rattle.std.proofs.lemmas.Grind.{common_steps}
use Rattle.std.proofs.lemmas.List.{get_or-set_other, set_past}
use mathlib.Core.Path.{◌≡◌, refl, sym, subst}
use mathlib.Core.Logic.{◌⊎◌, ⊎_elim}
use mathlib.Core.List.{List, [], ◌∷◌, Memᴰ}
use Prim.Native.Nat.{ℕ, zero, suc}
use native.Mathlib.Omega.{arith}
use lib.ListN.{get_or, set, replicate}
use Rattle.rules.specs.declared.Reference.{Reference}
use Rattle.rules.specs.declared.Reference.TheVariants.{Nowhere, Wrong, Follow}
use Rattle.rules.specs.Visits.{unvisited, visit_all, State, mark_of, opened, walk, enter, visit}
use Rattle.decl_order.proofs.Reachability.{Reaches, one, step, Faultless}

-- ---- a mark after a store

-- a mark that is 1 after a store of 2 was 1, and is another's
pub mark-listed : (l : List ℕ) (d i : ℕ) → get_or (set l d 2) i 2 ≡ 1 → (¬ (i ≡ d)) × (get_or l i 2 ≡ 1)
mark-listed l d i e = grind (arith, common_steps, get_or-set_other l d i 2 2, set_past l d 2)

-- a mark that is 1 after a store of 1 was 1, or is the one stored
pub mark-opened : (l : List ℕ) (d i : ℕ) → get_or (set l d 1) i 2 ≡ 1 → (i ≡ d) ⊎ (get_or l i 2 ≡ 1)
mark-opened l d i e = grind (arith, common_steps, get_or-set_other l d i 1 2)

-- ---- sequences of references

pub reaches-on : {f : ℕ → List Reference} {d e x : ℕ} → Reaches f d e → Memᴰ (Follow x) (f e) → Reaches f d x
reaches-on (one m) n = step m (one n)
reaches-on (step m l) n = step m (reaches-on l n)

-- ---- no fault

-- what is being visited in s' is so in s, and s' has no fault
record Clean (s s' : State) : Type 0 where
  none : s'.faults ≡ []
  opens : (i : ℕ) → mark_of s' i ≡ 1 → mark_of s i ≡ 1

module _ (f : ℕ → List Reference) (D : ℕ → Type 0)
    (closed : (d e : ℕ) → D d → Memᴰ (Follow e) (f d) → D e)
    (right : (d : ℕ) → D d → (c p : ℕ) → Memᴰ (Wrong c p) (f d) → ⊥)
    (acyclic : (d : ℕ) → D d → Reaches f d d → ⊥) where
  -- v finds no fault at a declaration that all that are being visited reach
  abbrev StaysClean : (ℕ → State → State) → Type 0
  StaysClean v = (d : ℕ) (s : State) → D d → ((e : ℕ) → mark_of s e ≡ 1 → Reaches f e d) → s.faults ≡ [] → Clean s (v d s)

  walk-clean : (v : ℕ → State → State) → StaysClean v → (l : List Reference) → ((c p : ℕ) → Memᴰ (Wrong c p) l → ⊥)
      → (s : State) → ((x : ℕ) → Memᴰ (Follow x) l → D x × ((e : ℕ) → mark_of s e ≡ 1 → Reaches f e x)) → s.faults ≡ [] → Clean s (walk v l s)
  unfolding walk
  walk-clean v h [] q s w z = record { none = z; opens = λ i o. o }
  walk-clean v h (Nowhere ∷ l) q s w z = walk-clean v h l (λ c p m. q c p (Memᴰ.tail m)) s (λ x m. w x (Memᴰ.tail m)) z
  walk-clean v h (Wrong c p ∷ l) q s w z = absurd (q c p (Memᴰ.head refl))
  walk-clean v h (Follow x ∷ l) q s w z =
      let a = w x (Memᴰ.head refl) in
      let b = h x s a.0 a.1 z in
      let r = walk-clean v h l (λ c p m. q c p (Memᴰ.tail m)) (v x s) (λ y m. ((w y (Memᴰ.tail m)).0, λ e o. (w y (Memᴰ.tail m)).1 e (b.opens e o))) b.none in
      record { none = r.none; opens = λ i o. b.opens i (r.opens i o) }

  visit-clean : (k : ℕ) → StaysClean (visit k f)
  unfolding visit enter
  visit-clean zero d s dd w z = record { none = z; opens = λ i o. o }
  visit-clean (suc k) d s dd w z =
      let r = walk-clean (visit k f) (visit-clean k) (f d) (right d dd) (opened d s)
      (λ x g. (closed d x dd g, λ e o. ⊎_elim (λ q. subst (λ y. Reaches f y x) (sym q) (one g)) (λ q. reaches-on (w e q) g) (mark-opened s.marks d e o))) z in
      grind (arith, common_steps, r, w d, acyclic d dd, mark-listed (walk (visit k f) (f d) (opened d s)).marks d, mark-opened s.marks d)

no-open : (n i : ℕ) → get_or {A = ℕ} (replicate n 0) i 2 ≡ 1 → ⊥
no-open n i e = grind (arith, common_steps)

pub accepted : (n : ℕ) (f : ℕ → List Reference) (roots : List Reference) → ((d e : ℕ) → Memᴰ (Follow d) roots → Memᴰ (Follow e) (f d) → Memᴰ (Follow e) roots)
    → Faultless f roots → (visit_all n f roots).faults ≡ []
unfolding visit_all
accepted n f roots closed h =
    (walk-clean f (λ d. Memᴰ (Follow d) roots) closed h.right h.acyclic (visit (suc n) f)
    (visit-clean f (λ d. Memᴰ (Follow d) roots) closed h.right h.acyclic (suc n))
    roots h.right-roots (unvisited n) (λ x m. (m, λ e o. absurd (no-open n e o))) refl).none
