-- Demand 3: with unique names pass 2 accepts exactly if every checked reference is allowed and no followed
-- references make a cycle, and then it lists each declaration but tests once, after all that it refers to.
-- Assumes nothing.
use Rattle.std.proofs.lemmas.Grind.{common_steps}
use mathlib.Core.Path.{◌≡◌, refl, sym, ap, subst}
use mathlib.Core.Logic.{◌⊎◌, inl, inr, ⊎_elim}
use mathlib.Core.Bool.{Bool, true, false}
use mathlib.Core.List.Memᴰ
use mathlib.Core.List.{List, [], ◌∷◌, map, Memᴰ}
use Prim.Native.Nat.{ℕ, zero, suc, ◌+◌, ◌-◌, ◌<◌, ◌≤◌}
use native.Mathlib.Nat.{eq-or-lt_of_le}
use native.Mathlib.Omega.{arith}
use lib.ListN.{length, get_or}
use Rattle.std.specs.Prelude.{None, Option, Some, ℕ}
use Rattle.rules.specs.Kinds.{is_decl}
use Rattle.rules.specs.Table.{decode, at}
use Rattle.rules.specs.Places.{holds_at, decl_named}
use Rattle.rules.specs.Visits.{PlaceFault, visit_all}
use Rattle.rules.specs.DeclIdentifiers.{group_reference, type_reference, parent_reference, test_reference, field_reference, field_references, own_reference, references, root_reference, root_references, visited, fault_of, pass2, order}
use Rattle.rules.specs.Ordering.{Declared, Named, UniqueNames, HeldBy, Allowed, Follows, by_group, by_type, by_parent, Sequence, last, next, Accepts, OrderingPromise, Demand3}
use Rattle.rules.specs.declared.Record.{Record}
use Rattle.rules.specs.declared.Target.TheVariants.{DeclNamed}
use Rattle.rules.specs.declared.Reference.{Reference}
use Rattle.rules.specs.declared.Reference.TheVariants.{Wrong, Follow}
use Rattle.table.proofs.Laws.{first-in}
use Rattle.table.proofs.Searches.{first-is, first-only}
use Rattle.decl_visits.proofs.Growth.{fields-cons, fields-decl}
use Rattle.decl_order.proofs.Reachability.{Reaches, one, step, Faultless}
use Rattle.decl_order.proofs.Accepts.{accepted}
use Rattle.decl_order.proofs.Topological.{ListedInOrder, in_order, topological, faultless}

module _ (rs : List Record) where
  -- ---- the search for a name

  found : (x e : ℕ) → decl_named rs x ≡ Some e → Named rs x e
  unfolding decl_named
  found x e h = grind (arith, common_steps, first-is (holds_at rs (DeclNamed x)) 0 (length rs - 0) e h, first-in (holds_at rs (DeclNamed x)) (length rs) 0 e h)

  -- ---- the references of a declaration's fields, and the roots

  -- no declaration stands from p to q
  abbrev Free : ℕ → ℕ → Type 0
  Free p q = (i : ℕ) → p ≤ i → i ≤ q → is_decl (at rs i).kind ≡ false

  fields-of : (j p : ℕ) (r : Reference) → Memᴰ r (field_references rs p j) → (q : ℕ) × (p ≤ q) × (q < p + j) × Free p q × (r ≡ field_reference rs q)
  unfolding field_references
  fields-of zero p r m = absurd (Memᴰ.not-nil m)
  fields-of (suc j) p r m = go (λ k. fields-of j (p + 1) r k) (is_decl (at rs p).kind) refl
    where
      go : (Memᴰ r (field_references rs (p + 1) j) → (q : ℕ) × (p + 1 ≤ q) × (q < p + 1 + j) × Free (p + 1) q × (r ≡ field_reference rs q)) → (b : Bool) → is_decl (at rs p).kind ≡ b
          → (q : ℕ) × (p ≤ q) × (q < p + suc j) × Free p q × (r ≡ field_reference rs q)
      go ih true e = absurd (Memᴰ.not-nil (subst (λ (l : List Reference). Memᴰ r l) (fields-decl rs p (suc j) e) m))
      go ih false e =
          ⊎_elim
          (λ y. (p, omega arith, omega arith, λ i a b. grind (arith, common_steps), y))
          (λ y. let h = ih y in let l = h.1 in let g = h.2 in (h.0, omega arith, omega arith, λ i a b. grind (arith, common_steps, h.3 i), h.4))
          (Memᴰ.cases_cons (subst (λ (l : List Reference). Memᴰ r l) (fields-cons rs p j e) m))

  mem-fields : (j p q : ℕ) → p ≤ q → q < p + j → Free p q → Memᴰ (field_reference rs q) (field_references rs p j)
  mem-fields zero p q l h n = absurd (omega arith)
  mem-fields (suc j) p q l h n =
      subst (λ (x : List Reference). Memᴰ (field_reference rs q) x) (sym (fields-cons rs p j (n p (omega arith) l)))
      (⊎_elim
      (λ z. Memᴰ.head (ap (field_reference rs) (sym z)))
      (λ z. Memᴰ.tail (mem-fields j (p + 1) q (omega arith) (omega arith) (λ i a b. n i (omega arith) b)))
      (eq-or-lt_of_le l))

  roots-of : (j p : ℕ) (r : Reference) → Memᴰ r (root_references rs p j) → (q : ℕ) × (q < p + j) × (r ≡ root_reference rs q)
  unfolding root_references
  roots-of zero p r m = absurd (Memᴰ.not-nil m)
  roots-of (suc j) p r m =
      ⊎_elim (λ y. (p, omega arith, y)) (λ y. let h = roots-of j (p + 1) r y in let l = h.1 in (h.0, omega arith, h.2)) (Memᴰ.cases_cons m)

  mem-roots : (j p q : ℕ) → p ≤ q → q < p + j → Memᴰ (root_reference rs q) (root_references rs p j)
  unfolding root_references
  mem-roots zero p q a b = absurd (omega arith)
  mem-roots (suc j) p q a b =
      ⊎_elim (λ z. Memᴰ.head (ap (root_reference rs) (sym z))) (λ z. Memᴰ.tail (mem-roots j (p + 1) q (omega arith) (omega arith))) (eq-or-lt_of_le a)

  abbrev roots : List Reference
  roots = root_references rs 0 (length rs)

  -- what a declaration refers to, by its fields and its parent
  references-field : (d p : ℕ) → HeldBy rs d p → Memᴰ (field_reference rs p) (references rs d)
  unfolding references
  references-field d p h =
      let l = h.0 in
      let b = h.1 in
      Memᴰ.append_left (own_reference rs d ∷ []) (mem-fields (length rs - (d + 1)) (d + 1) p (omega arith) (omega arith) (λ i a c. h.2 i (omega arith) c))

  references-own : (d : ℕ) → Memᴰ (own_reference rs d) (references rs d)
  unfolding references
  references-own d = Memᴰ.append_right (field_references rs (d + 1) (length rs - (d + 1))) (Memᴰ.head refl)

  references-of : (d : ℕ) {r : Reference} → Memᴰ r (references rs d) → ((p : ℕ) × HeldBy rs d p × (r ≡ field_reference rs p)) ⊎ (r ≡ own_reference rs d)
  unfolding references
  references-of d {r} m =
      ⊎_elim
      (λ y.
      let h = fields-of (length rs - (d + 1)) (d + 1) r y in
      let l = h.1 in
      let g = h.2 in
      inl (h.0, (omega arith, omega arith, λ i a c. h.3 i (omega arith) c), h.4))
      (λ y. inr (Memᴰ.eq_of_singleton y))
      (Memᴰ.append_cases (field_references rs (d + 1) (length rs - (d + 1))) m)

  -- ---- a visit is of a followed reference

  field-follows : {d p e : ℕ} → Declared rs d → HeldBy rs d p → Follow e ≡ field_reference rs p → Follows rs d e
  unfolding field_reference group_reference type_reference
  field-follows {d} {p} {e} dd h g = grind (arith, common_steps, found (at rs p).second e, by_group {d = d} {e = e} p dd h, by_type {d = d} {e = e} p dd h)

  own-follows : {d e : ℕ} → Declared rs d → Follow e ≡ own_reference rs d → Follows rs d e
  unfolding own_reference parent_reference
  own-follows {d} {e} dd g = grind (arith, common_steps, found (at rs d).second e, by_parent {d = d} {e = e} dd)

  follow-follows : (d e : ℕ) → Declared rs d → Memᴰ (Follow e) (references rs d) → Follows rs d e
  follow-follows d e dd m = ⊎_elim (λ h. field-follows dd h.1 h.2) (own-follows dd) (references-of d m)

  follows-ends : {d e : ℕ} → Follows rs d e → Declared rs d × Declared rs e
  follows-ends (by_group p dd h k n) = (dd, n.0)
  follows-ends (by_type p dd h k n) = (dd, n.0)
  follows-ends (by_parent dd k n) = (dd, n.0)

  reaches-sequence : {d e : ℕ} → Declared rs d → Reaches (references rs) d e → Sequence rs d e
  reaches-sequence {d} {e} dd (one m) = last (follow-follows d e dd m)
  reaches-sequence {d} dd (step {x = x} m w) =
      let f = follow-follows d x dd m in
      next f (reaches-sequence (follows-ends f).1 w)

  -- ---- the roots

  root-declared : (d : ℕ) → Declared rs d → Memᴰ (Follow d) roots
  unfolding root_reference
  root-declared d h =
      let l = h.0 in
      Memᴰ.cast (rw h.1) (mem-roots (length rs) 0 d (omega arith) (omega arith))

  follow-declared : {p d : ℕ} → p < length rs → Follow d ≡ root_reference rs p → Declared rs d
  unfolding root_reference test_reference
  follow-declared l e = grind (arith, common_steps)

  declared-root : (d : ℕ) → Memᴰ (Follow d) roots → Declared rs d
  declared-root d m = let h = roots-of (length rs) 0 (Follow d) m in let l = h.1 in follow-declared {p = h.0} (omega arith) h.2

  closed : (d e : ℕ) → Memᴰ (Follow d) roots → Memᴰ (Follow e) (references rs d) → Memᴰ (Follow e) roots
  closed d e m n = root-declared e (follows-ends (follow-follows d e (declared-root d m) n)).1

  below : (d : ℕ) → Memᴰ (Follow d) roots → d < length rs
  below d m = (declared-root d m).0

  -- ---- pass 2 accepts if the visits find no fault

  no-faults : Accepts rs → (visit_all (length rs) (references rs) roots).faults ≡ []
  unfolding pass2 visited
  no-faults a = empty (visit_all (length rs) (references rs) roots).faults a
    where
      empty : (l : List PlaceFault) → map (fault_of rs) l ≡ [] → l ≡ []
      empty [] e = refl
      empty (x ∷ l) e = cc

  accepts : (visit_all (length rs) (references rs) roots).faults ≡ [] → Accepts rs
  unfolding pass2 visited
  accepts e = ap (map (fault_of rs)) e

  -- the listed places are declarations, each listed once: this holds of any names
  pub listed-declared : Accepts rs → (d : ℕ) → Memᴰ d (order rs) → Declared rs d
  unfolding order visited
  listed-declared a d m = declared-root d ((topological (length rs) (references rs) roots closed below (no-faults a)).only d m)

  pub listed-in-order : Accepts rs → ListedInOrder (references rs) (order rs)
  unfolding order visited
  listed-in-order a = in_order (length rs) (references rs) roots closed below (no-faults a)

  -- ---- with unique names

  module _ (u : UniqueNames rs) where
    find-named : (x e : ℕ) → Named rs x e → decl_named rs x ≡ Some e
    unfolding decl_named
    find-named x e n = first-only (holds_at rs (DeclNamed x)) (length rs) e n.0.0 (grind (arith, common_steps)) (λ i l h. grind (arith, common_steps, u i e))

    -- an allowed name makes no fault
    module _ (a : Allowed rs) where
      field-right : {d p c q : ℕ} → Declared rs d → HeldBy rs d p → Wrong c q ≡ field_reference rs p → ⊥
      unfolding field_reference group_reference type_reference
      field-right {d} {p} dd h e = grind (arith, common_steps, a.groups d p dd h, a.types d p dd h, find-named (at rs p).second)

      own-right : {d c q : ℕ} → Declared rs d → Wrong c q ≡ own_reference rs d → ⊥
      unfolding own_reference parent_reference
      own-right {d} dd e = grind (arith, common_steps, a.parents d dd, find-named (at rs d).second)

      root-right : {p c q : ℕ} → p < length rs → Wrong c q ≡ root_reference rs p → ⊥
      unfolding root_reference test_reference
      root-right {p} l e = grind (arith, common_steps, a.tests p l, find-named (at rs p).second)

    module _ (s : Faultless (references rs) roots) where
      right-at : (d : ℕ) → Declared rs d → (c q : ℕ) → Memᴰ (Wrong c q) (references rs d) → ⊥
      right-at d dd = s.right d (root-declared d dd)

      -- a name that is found and makes no fault is allowed
      allowed_of : (P : ℕ → Type 0) (x : ℕ) → (decl_named rs x ≡ None → ⊥) → ((e : ℕ) → decl_named rs x ≡ Some e → P e) → (e : ℕ) × Named rs x e × P e
      allowed_of P x n h = go (decl_named rs x) refl
        where
          go : (f : Option ℕ) → decl_named rs x ≡ f → (e : ℕ) × Named rs x e × P e
          go None z = absurd (n z)
          go (Some e) z = (e, found x e z, h e z)

      faultless-allowed : Allowed rs
      unfolding field_reference group_reference type_reference own_reference parent_reference root_reference test_reference
      faultless-allowed = record {
        groups = λ d p dd h k.
            let m = references-field d p h in
            allowed_of _ _ (λ z. grind (arith, common_steps, m, right-at d dd 3 p)) (λ e z. grind (arith, common_steps, m, right-at d dd 4 p));
        types = λ d p dd h k.
            let m = references-field d p h in
            allowed_of _ _ (λ z. grind (arith, common_steps, m, right-at d dd 5 p)) (λ e z. grind (arith, common_steps, m, right-at d dd 6 p));
        parents = λ d dd k.
            let m = references-own d in
            allowed_of _ _ (λ z. grind (arith, common_steps, m, right-at d dd 7 d)) (λ e z. grind (arith, common_steps, m, right-at d dd 8 d));
        tests = λ p l k.
            let m = mem-roots (length rs) 0 p (omega arith) (omega arith) in
            allowed_of _ _ (λ z. grind (arith, common_steps, m, s.right-roots 9 p)) (λ e z. grind (arith, common_steps, m, s.right-roots 10 p));
      }

      follows-follow : (d e : ℕ) → Follows rs d e → Memᴰ (Follow e) (references rs d)
      unfolding field_reference group_reference type_reference own_reference parent_reference
      follows-follow d e (by_group p dd h k n) = grind (arith, common_steps, references-field d p h, right-at d dd 4 p, find-named (at rs p).second e n)
      follows-follow d e (by_type p dd h k n) = grind (arith, common_steps, references-field d p h, right-at d dd 6 p, find-named (at rs p).second e n)
      follows-follow d e (by_parent dd k n) = grind (arith, common_steps, references-own d, right-at d dd 8 d, find-named (at rs d).second e n)

      sequence-reaches : {d e : ℕ} → Sequence rs d e → Reaches (references rs) d e
      sequence-reaches {d} {e} (last w) = one (follows-follow d e w)
      sequence-reaches {d} (next {x = x} w q) = step (follows-follow d x w) (sequence-reaches q)

    sequence-declared : {d e : ℕ} → Sequence rs d e → Declared rs d
    sequence-declared (last w) = (follows-ends w).0
    sequence-declared (next w q) = (follows-ends w).0

    pub promise : OrderingPromise rs
    unfolding order visited
    promise =
        let s : Accepts rs → Faultless (references rs) roots = λ a. faultless (length rs) (references rs) roots closed below (no-faults a) in
        record {
          sound = λ a. (faultless-allowed (s a), λ d w. (s a).acyclic d (root-declared d (sequence-declared w)) (sequence-reaches (s a) w));
          complete = λ a h. accepts (accepted (length rs) (references rs) roots closed (record {
            right-roots = λ c q m. let r = roots-of (length rs) 0 (Wrong c q) m in let l = r.1 in root-right a {p = r.0} (omega arith) r.2;
            right = λ d m c q n. let dd = declared-root d m in ⊎_elim (λ r. field-right a dd r.1 r.2) (own-right a dd) (references-of d n);
            acyclic = λ d m w. h d (reaches-sequence (declared-root d m) w);
          }));
          listing = λ a.
              let r = topological (length rs) (references rs) roots closed below (no-faults a) in
              record {
                each = λ d dd. r.each d (root-declared d dd);
                only = λ d m. declared-root d (r.only d m);
                once = r.once;
                after = λ i e l w. r.after i e l (follows-follow (s a) (get_or (order rs) i 0) e w);
              };
        }

-- demand 3
pub demand3 : Demand3
demand3 i sound unique = promise (decode i) unique
