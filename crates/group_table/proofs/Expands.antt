-- Inlining over plain lists: what the recursion needs at each call, and shows at each turn. Assumes nothing.
use Rattle.std.proofs.Common.{Some}
use Prim.Native.Nat.{ℕ, zero, suc, ◌+◌, ◌-◌, ◌<◌, ◌≤◌, min}
use mathlib.Core.Path.{◌≡◌, refl, sym, ap, ◌∙◌}
use mathlib.Core.List.{List, [], ◌∷◌, ◌++◌}
use mathlib.Core.Bool.{true, false}
use mathlib.Core.Logic.{inl, inr}
use native.Mathlib.Omega.{arith}
use native.Mathlib.Nat.{not-suc-le-zero, le_of_suc-le-suc}
use borrow.Author.Tests.{eq-eqb, ne_eqb}
use lib.Dec.{eqb}
use lib.ListN.{length, get_or, take, length-append}
use lib.Seq.{take-append-le, take-length}
use Rattle.std.proofs.lemmas.Grind.{common_steps}
use Rattle.rules.specs.Table.{at}
use Rattle.rules.specs.Places.{nearest, holds_at, decl_named}
use Rattle.rules.specs.Kinds.{is_decl}
use Rattle.rules.specs.InlineGroups.{constraints, own_constraints, group_fields, inlined_record, inlined_field, inlined_fields, expand}
use Rattle.rules.specs.declared.Record.{Record}
use Rattle.rules.specs.declared.Inlined.{Inlined}
use Rattle.rules.specs.declared.Target.TheVariants.{Decl}
use Rattle.group_table.specs.declared.ExpandProgress.{ExpandProgress}
use Rattle.group_sizes.specs.Members.{MemberIn, Ends, Step}
use Rattle.group_sizes.specs.declared.members.Member.{Member}
use Rattle.group_sizes.specs.Sizes.{size_at, fields_size, size_from, Measured}
use Rattle.group_table.specs.Outputs.{Output, output, added, added_all, ExpandReady, Expanded}
use Rattle.table.proofs.Laws.{left-suc, left-none}
use Rattle.group_sizes.proofs.Known.{named_in, named-declares, group-before}
use Rattle.group_sizes.proofs.Fields.{here-start, here-next, size-next, size-end}

-- what the records from p on become
abbrev pub fields_from : (List ℕ → ℕ → List Inlined) → List Record → List ℕ → ℕ → List Inlined
fields_from e rs env p = inlined_fields e rs env p (length rs - p)

-- what is right as far as 1,601 of two parts is so of both
pub min-sum : (a b c d : ℕ) → min 1601 a ≡ min 1601 c → min 1601 b ≡ min 1601 d → min 1601 (a + b) ≡ min 1601 (c + d)
min-sum a b c d h g = omega arith

-- ---- declarations and the places after them

module _ (rs : List Record) where
  -- what comes after the declaration at d belongs to d or to a later one
  here-past : (d : ℕ) → is_decl (at rs d).kind ≡ true → (e : ℕ) {x : ℕ} → nearest (holds_at rs Decl) e ≡ Some x → x < d → e ≤ d
  unfolding nearest
  here-past d h zero q l = omega arith
  here-past d h (suc e) {x} q l = more (λ r. here-past d h e {x = x} r l) q
    where
      more : (nearest (holds_at rs Decl) e ≡ Some x → e ≤ d) → nearest (holds_at rs Decl) (suc e) ≡ Some x → suc e ≤ d
      more r q = grind (arith, common_steps)

  -- ---- the records of a declaration, one at a time
  fields-next : (p : ℕ) → p < length rs → is_decl (at rs p).kind ≡ false → (e : List ℕ → ℕ → List Inlined) (env : List ℕ)
      → fields_from e rs env p ≡ inlined_field e rs env p ++ fields_from e rs env (p + 1)
  unfolding inlined_fields
  fields-next p l o e env = rw (left-suc (length rs) p l, inlined_fields, o)

  fields-end : (p : ℕ) → Ends rs p → (e : List ℕ → ℕ → List Inlined) (env : List ℕ) → fields_from e rs env p ≡ []
  unfolding inlined_fields
  fields-end p (inl h) e env = rw (left-suc (length rs) p h.0, inlined_fields, h.1)
  fields-end p (inr h) e env = rw (left-none (length rs) p h, inlined_fields)

-- ---- records one after another

pub added-append : (o : Output) (xs ys : List Inlined) → added_all o (xs ++ ys) ≡ added_all (added_all o xs) ys
unfolding added_all
added-append o [] ys = refl
added-append o (x ∷ xs) ys = added-append (added o x) xs ys

-- where places up to the end of a declaration have room beside k, so do as many as the constraints from one of its places on
own-room : (rs : List Record) (d k n p : ℕ) → nearest (holds_at rs Decl) p ≡ Some d → ((e : ℕ) → e ≤ p + n → nearest (holds_at rs Decl) e ≡ Some d → k + e ≤ 1600) → k + p + length (constraints rs p n) ≤ 1600
unfolding constraints
own-room rs d k zero p h f = let r = f p (omega arith) h in omega arith
own-room rs d k (suc n) p h f = more (f p (omega arith) h) (λ o. own-room rs d k n (p + 1) (here-next rs p o h) (λ e l. f e (omega arith)))
  where
    more : k + p ≤ 1600 → (is_decl (at rs p).kind ≡ false → k + (p + 1) + length (constraints rs (p + 1) n) ≤ 1600) → k + p + length (constraints rs p (suc n)) ≤ 1600
    more b r = grind (arith, common_steps)

-- ---- the sizes are those of the expansions, as far as 1,601

nil-of : {A : Type 0} (l : List A) → length l ≡ 0 → l ≡ []
nil-of [] h = refl
nil-of (x ∷ l) h = absurd (omega arith)

module _ {rs : List Record} {targets sizes : List ℕ} (y : Measured rs targets sizes) where
  module _ (d : ℕ) (e : List ℕ → ℕ → List Inlined) (ok : (env : List ℕ) (g : ℕ) → g < d → g < length rs → is_decl (at rs g).kind ≡ true → min 1601 (length (e env g)) ≡ get_or sizes g 0) where
    field-size : (env : List ℕ) (p : ℕ) → p < length rs → nearest (holds_at rs Decl) p ≡ Some d → min 1601 (length (inlined_field e rs env p)) ≡ min 1601 (size_at targets sizes rs p)
    unfolding inlined_field group_fields size_at
    field-size env p l h =
        let f = y.resolved.right p l in
        let s : eqb (at rs p).kind 34 ≡ true → min 1601 (length (e (env ++ own_constraints rs p) (get_or targets p 0))) ≡ get_or sizes (get_or targets p 0) 0
        = λ i. ok (env ++ own_constraints rs p) (get_or targets p 0) (group-before rs y.groups p l i h (f i)) (named_in rs (at rs p).second (f i)) (named-declares rs (at rs p).second (f i)) in
        grind (arith, common_steps)

    fields-size : (env : List ℕ) (n p : ℕ) → p + n ≤ length rs → nearest (holds_at rs Decl) p ≡ Some d → min 1601 (length (inlined_fields e rs env p n)) ≡ min 1601 (fields_size targets sizes rs p n)
    unfolding inlined_fields fields_size
    fields-size env zero p l h = refl
    fields-size env (suc n) p l h = more (field-size env p (omega arith) h) (λ o. fields-size env n (p + 1) (omega arith) (here-next rs p o h))
      where
        more : min 1601 (length (inlined_field e rs env p)) ≡ min 1601 (size_at targets sizes rs p)
            → (is_decl (at rs p).kind ≡ false → min 1601 (length (inlined_fields e rs env (p + 1) n)) ≡ min 1601 (fields_size targets sizes rs (p + 1) n))
            → min 1601 (length (inlined_fields e rs env p (suc n))) ≡ min 1601 (fields_size targets sizes rs p (suc n))
        more a r = grind (arith, common_steps, length-append {A = Inlined})

  pub expand-size : (k : ℕ) (env : List ℕ) (d : ℕ) → d < k → d < length rs → is_decl (at rs d).kind ≡ true → min 1601 (length (expand rs k env d)) ≡ get_or sizes d 0
  unfolding expand
  expand-size zero env d h l i = absurd (not-suc-le-zero h)
  expand-size (suc k) env d h l i =
      fields-size d (expand rs k) (λ v g b m j. expand-size k v g (omega arith) m j) env (length rs - (d + 1)) (d + 1) (omega arith) (here-start rs d i) ∙ sym (y.sized.right d l i)

  expand-none : (k : ℕ) (env : List ℕ) (d : ℕ) → d < k → d < length rs → is_decl (at rs d).kind ≡ true → get_or sizes d 0 ≡ 0 → expand rs k env d ≡ []
  expand-none k env d h l i e = let w = expand-size k env d h l i in nil-of (expand rs k env d) (omega arith)

-- ---- the records behind the declaration at d: what is written at p, and what is left, make the whole

pub record Walking (rs : List Record) (targets sizes : List ℕ) (d : ℕ) (env₀ : List ℕ) (out₀ : List Record) (a : ExpandProgress) (env : List ℕ) (out : List Record) (s : ExpandProgress) (p : ℕ) : Type 0 where
  pub past : d < p
  pub here : nearest (holds_at rs Decl) p ≡ Some d
  pub made : (k : ℕ) → d ≤ k → added_all (output a out₀) (fields_from (expand rs k) rs env₀ (d + 1)) ≡ added_all (output s out) (fields_from (expand rs k) rs env₀ p)
  pub kept : env ≡ env₀
  pub out-long : length out ≡ length out₀
  pub counted : s.count + size_from targets sizes rs p ≡ a.count + get_or sizes d 0

module _ {rs : List Record} {targets sizes : List ℕ} (k : Measured rs targets sizes) {d : ℕ} {env₀ : List ℕ} {out₀ : List Record} {a : ExpandProgress} (y : ExpandReady rs sizes d env₀ out₀ a) where
  pub walk_start : Walking rs targets sizes d env₀ out₀ a env₀ out₀ a (d + 1)
  walk_start =
      let z = k.sized.right d y.decl.0 y.decl.1 in
      let r = y.room in
      record { past = omega arith; here = here-start rs d y.decl.1; made = λ k h. refl; kept = refl; out-long = refl; counted = omega arith }

  -- nothing is left
  pub walk_end : {env : List ℕ} {out : List Record} {s : ExpandProgress} {p : ℕ} → Walking rs targets sizes d env₀ out₀ a env out s p → Ends rs p → Expanded rs sizes d env₀ out₀ a env out s
  unfolding expand added_all
  walk_end {out = out} {s = s} {p = p} w e =
      let c = w.counted in
      let q = size-end rs p e targets sizes in
      record { made = made; kept = w.kept; counted = omega arith }
    where
      made : (k : ℕ) → d < k → output s out ≡ added_all (output a out₀) (expand rs k env₀ d)
      made zero h = absurd (not-suc-le-zero h)
      made (suc k) h = sym (w.made k (le_of_suc-le-suc h) ∙ rw (fields-end rs p e (expand rs k) env₀))

  -- what stands at the place of m is written
  module _ {env : List ℕ} {out : List Record} {s : ExpandProgress} {m : Member} (w : Walking rs targets sizes d env₀ out₀ a env out s m.place) (h : MemberIn rs m) where
    walk-next : {env' : List ℕ} {out' : List Record} {s' : ExpandProgress}
        → ((k : ℕ) → d ≤ k → output s' out' ≡ added_all (output s out) (inlined_field (expand rs k) rs env₀ m.place))
        → s'.count ≡ s.count + size_at targets sizes rs m.place → env' ≡ env → length out' ≡ length out
        → Walking rs targets sizes d env₀ out₀ a env' out' s' (m.place + 1)
    walk-next new c e g =
        let l = w.past in
        let q = w.counted in
        let z = rw h.inside at (size-next rs m.place h.below targets sizes) in
        record {
          past = omega arith;
          here = here-next rs m.place h.inside w.here;
          made = λ k i. w.made k i ∙ rw (fields-next rs m.place h.below h.inside (expand rs k) env₀, added-append, ← new k i);
          kept = e ∙ w.kept;
          out-long = g ∙ w.out-long;
          counted = omega arith;
        }

    size-left : s.count + size_at targets sizes rs m.place ≤ a.count + get_or sizes d 0
    size-left = let q = w.counted in let z = rw h.inside at (size-next rs m.place h.below targets sizes) in omega arith

    -- ---- a group field: its group stands at g
    module _ (k34 : m.kind ≡ 34) where
      is-group : eqb (at rs m.place).kind 34 ≡ true
      is-group = eq-eqb _ _ (sym h.kind ∙ k34)

      abbrev g : ℕ
      g = get_or targets m.place 0

      found : decl_named rs (at rs m.place).second ≡ Some g
      found = k.resolved.right m.place h.below is-group

      in-table : (g < d) × (g < length rs) × (is_decl (at rs g).kind ≡ true)
      in-table = (group-before rs k.groups m.place h.below is-group w.here found, named_in rs (at rs m.place).second found, named-declares rs (at rs m.place).second found)

      size-found : size_at targets sizes rs m.place ≡ get_or sizes g 0
      unfolding size_at
      size-found = rw (size_at, is-group)

      field-group : (e : List ℕ → ℕ → List Inlined) (v : List ℕ) → inlined_field e rs v m.place ≡ e (v ++ own_constraints rs m.place) g
      unfolding inlined_field group_fields
      field-group e v = rw (inlined_field, is-group, found)

      pub call-push : length env + length (own_constraints rs m.place) + (m.place + 1) ≤ 1600
      call-push =
          let l = h.below in
          let e = ap length w.kept in
          let r = own-room rs d (length env) (length rs - (m.place + 1)) (m.place + 1) (here-next rs m.place h.inside w.here) (λ x i z. let v = y.spare x (omega arith) z in omega arith) in
          omega arith

      -- it has no fields
      pub turn-empty : get_or sizes (get_or targets m.place 0) 0 ≡ 0 → Walking rs targets sizes d env₀ out₀ a env out s (m.place + 1)
      unfolding added_all
      turn-empty z =
          let q = size-found in
          let v = in-table in
          walk-next (λ n i. sym (rw (field-group (expand rs n) env₀, expand-none k n (env₀ ++ own_constraints rs m.place) g (omega arith) v.1 v.2 z))) (omega arith) refl refl

      -- its fields are written
      module _ {env₁ : List ℕ} (pm : env₁ ≡ env ++ own_constraints rs m.place) where
        pub call-expand : {x : ℕ} → d ≡ x → (get_or targets m.place 0 < x) × ExpandReady rs sizes (get_or targets m.place 0) env₁ out s
        call-expand e =
            let t = in-table in
            let q = size-found in
            let f = size-left in
            let v = w.past in
            let l = w.out-long in
            let n = simp length-append at (ap length pm) in
            let c = call-push in (
              omega arith,
              record {
                decl = (t.1, t.2);
                spare = λ x i z. (let j = here-past rs d y.decl.1 x z t.0 in omega arith);
                room = (let r = y.room in omega arith);
                wide = (let r = y.wide in omega arith);
              },
            )

        pub turn-group : {env₂ env₃ : List ℕ} {out₂ : List Record} {s₂ : ExpandProgress} → Expanded rs sizes (get_or targets m.place 0) env₁ out s env₂ out₂ s₂ → env₃ ≡ take (length env) env₂ → length out₂ ≡ length out
            → Walking rs targets sizes d env₀ out₀ a env₃ out₂ s₂ (m.place + 1)
        turn-group x e f =
            let q = size-found in
            let c = x.counted in
            walk-next (λ n i. let v = in-table in x.made n (omega arith) ∙ rw (field-group (expand rs n) env₀, pm, w.kept)) (omega arith)
            (e ∙ rw (x.kept, pm, take-append-le (length env) env (own_constraints rs m.place) (omega arith)) (take-length env)) f

    -- ---- any other record
    module _ (k34 : ¬ (m.kind ≡ 34)) where
      no-group : eqb (at rs m.place).kind 34 ≡ false
      no-group = ne_eqb _ _ (λ e. k34 (h.kind ∙ e))

      -- what belongs to a group field is lost
      pub turn-lost : m.bound ≡ true → Walking rs targets sizes d env₀ out₀ a env out s (m.place + 1)
      unfolding inlined_field size_at added_all
      turn-lost f =
          let b = sym h.bound ∙ f in
          walk-next (λ n i. rw (inlined_field, no-group, b)) (rw (size_at, no-group, b) (omega arith)) refl refl

      module _ (f : m.bound ≡ false) where
        size-one : size_at targets sizes rs m.place ≡ 1
        unfolding size_at
        size-one = rw (size_at, no-group, sym h.bound ∙ f)

        pub call-add : s.count < length out
        call-add = let q = size-one in let l = size-left in let e = w.out-long in let v = y.wide in omega arith

        -- what is written
        pub turn_one : {out₂ : List Record} {s₂ : ExpandProgress} → output s₂ out₂ ≡ added (output s out) (inlined_record rs env (at rs m.place)) → length out₂ ≡ length out
            → Walking rs targets sizes d env₀ out₀ a env out₂ s₂ (m.place + 1)
        unfolding inlined_field added_all added
        turn_one x e =
            let q = size-one in
            walk-next (λ n i. x ∙ rw (inlined_field, no-group, sym h.bound ∙ f, w.kept)) (ap (λ (u : Output). u.progress.count) x ∙ omega arith) refl e

-- ---- a step of the loop, from place p to place q

module _ {rs t : List Record} {targets sizes : List ℕ} {d : ℕ} {env₀ : List ℕ} {out₀ : List Record} {a : ExpandProgress} {t' : List Record} {m : Member} {p q : ℕ} (z : Step t p (Some m) t' q) where
  pub step_in : {env : List ℕ} {out : List Record} {s : ExpandProgress} → (t ≡ rs) × Walking rs targets sizes d env₀ out₀ a env out s p → Walking rs targets sizes d env₀ out₀ a env out s m.place × MemberIn rs m
  step_in v = (rw (← z.2) at v.1, rw v.0 at z.0)

  pub step_out : {env : List ℕ} {out : List Record} {s : ExpandProgress} → t ≡ rs → Walking rs targets sizes d env₀ out₀ a env out s (m.place + 1) → (t' ≡ rs) × Walking rs targets sizes d env₀ out₀ a env out s q
  step_out e w = (z.1 ∙ e, rw z.3 w)
