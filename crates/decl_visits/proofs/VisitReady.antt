-- What the cycle of visit and walk needs at each call and each return, over lists and numbers. Assumes nothing.
use Rattle.std.proofs.lemmas.Grind.{common_steps}
use mathlib.Core.Path.{◌≡◌, refl, sym, ◌∙◌}
use mathlib.Core.Bool.{true, false}
use mathlib.Core.List.{List, [], ◌∷◌, ◌++◌, map, map-append}
use Prim.Native.Nat.{ℕ, zero, suc, ◌+◌, ◌*◌, ◌-◌, ◌^◌, ◌<◌, ◌≤◌}
use native.Mathlib.Nat.{zero-add}
use native.Mathlib.Omega.{arith}
use lib.ListN.{length, get_or, set, take, length-set, length-map}
use lib.Seq.{sets, take-set-lt, drop-set-lt}
use Rattle.std.specs.Prelude.{Some, ℕ}
use Rattle.rules.specs.Kinds.{is_decl, may_refer}
use Rattle.rules.specs.Table.{at}
use Rattle.rules.specs.Places.{holds_at, decl_named}
use Rattle.rules.specs.Faults.{single, log}
use Rattle.rules.specs.Visits.{State, mark_of, opened, faulted, listed, resolve, walk, enter, visit}
use Rattle.rules.specs.DeclIdentifiers.{group_reference, type_reference, parent_reference, test_reference, field_reference, own_reference, root_reference, field_references, references, fault_of}
use Rattle.rules.specs.declared.Record.{Record}
use Rattle.rules.specs.declared.Target.TheVariants.{DeclNamed}
use Rattle.rules.specs.declared.Reference.{Reference}
use Rattle.rules.specs.declared.Reference.TheVariants.{Nowhere, Wrong, Follow}
use Rattle.faults.specs.Notes.{no_faults}
use Rattle.faults.proofs.Laws.{noted-then, noted_one, total-after}
use Rattle.table.proofs.Laws.{first-in, same-default}
use Rattle.decl_visits.specs.declared.VisitProgress.{VisitProgress}
use Rattle.decl_visits.specs.Contract.{unvisited_count, unvisited_in, listing, Noted, StateHeld, VisitReady, Within, taken_up, walked, Visited, Walked}
use Rattle.decl_visits.proofs.Growth.{Growth, unvisited-opened, resolve-growth, walk-growth, visit-growth, fields-one, fields-decl, fields-past, fields-length, references-length}

-- ---- how each step of the code changes the state that is held

-- one more place goes behind those that are listed
sets_more : (l o : List ℕ) (i d : ℕ) → sets o i (l ++ d ∷ []) ≡ set (sets o i l) (i + length l) d
sets_more [] o i d = grind (arith, common_steps)
sets_more (x ∷ l) o i d = grind (arith, common_steps, sets_more l (set o i x) (suc i) d)

-- the declaration at d is being visited
abbrev pub opening : ℕ → VisitProgress → VisitProgress
opening d a = record { marks = set a.marks d 1; places = a.places; listed = a.listed; tally = a.tally }

module _ (rs : List Record) {o : VisitProgress} {f₀ : List ℕ} {s : State} {a : VisitProgress} {f : List ℕ} (h : StateHeld rs o f₀ s a f) where
  held-note : {c p : ℕ} {a' : VisitProgress} {f' : List ℕ} → Noted rs a f c p a' f' → StateHeld rs o f₀ (faulted c p s) a' f'
  held-note {c} {p} e =
      let n = noted-then (log no_faults f₀) (map (fault_of rs) s.faults) (single c (at rs p) ∷ []) h.faults_are (e.faults ∙ noted_one (log a.tally f) (single c (at rs p))) in
      grind (arith, common_steps, map-append (fault_of rs) s.faults (record { code = c; place = p } ∷ []), n)

  held-total : a.tally.total ≡ length s.faults
  held-total = total-after no_faults f₀ (map (fault_of rs) s.faults) h.faults_are ∙ zero-add _ ∙ length-map s.faults (fault_of rs)

  module _ {d : ℕ} (l : d < length rs) where
    held-open : StateHeld rs o f₀ (opened d s) (opening d a) f
    held-open = grind (arith, common_steps, take-set-lt (length rs) a.marks d 1, drop-set-lt (length rs) a.marks d 1)

    held-list : StateHeld rs o f₀ (listed d s) (listing d a) f
    held-list = grind (arith, common_steps, take-set-lt (length rs) a.marks d 2, drop-set-lt (length rs) a.marks d 2, sets_more s.order o.places 0 d)

-- ---- a declaration to visit stands in the table

module _ (rs : List Record) where
  named_in : (x e : ℕ) → decl_named rs x ≡ Some e → e < length rs
  unfolding decl_named
  named_in x e h = (first-in (holds_at rs (DeclNamed x)) (length rs) 0 e h).1

  within-field : (p : ℕ) → Within (length rs) (field_reference rs p)
  unfolding field_reference group_reference type_reference
  within-field p = grind (arith, common_steps, named_in (at rs p).second)

  within-own : (d : ℕ) → Within (length rs) (own_reference rs d)
  unfolding own_reference parent_reference
  within-own d = grind (arith, common_steps, named_in (at rs d).second)

  pub within-root : (p : ℕ) → p < length rs → Within (length rs) (root_reference rs p)
  unfolding root_reference test_reference
  within-root p l = grind (arith, common_steps)

-- ---- what the definitions do, a case at a time

walk-last : (v : ℕ → State → State) (l : List Reference) (r : Reference) (s : State) → walk v (l ++ (r ∷ [])) s ≡ resolve v r (walk v l s)
unfolding walk
walk-last v [] r s = refl
walk-last v (a ∷ l) r s = walk-last v l r (resolve v a s)

-- a field of a kind that refers to nothing
nowhere : (rs : List Record) (p : ℕ) → may_refer (at rs p).kind ≡ false → field_reference rs p ≡ Nowhere
unfolding field_reference
nowhere rs p e = grind (arith, common_steps)

-- in table order only a declaration refers to anything
pub root-nowhere : (rs : List Record) (p : ℕ) → is_decl (at rs p).kind ≡ false → Nowhere ≡ root_reference rs p
unfolding root_reference
root-nowhere rs p e = grind (arith, common_steps)

-- ---- what a step leaves

module _ (rs : List Record) (few : length rs ≤ 1600) where
  visits-grow : (k d : ℕ) (s : State) → Growth s (visit k (references rs) d s) 1
  visits-grow k = visit-growth (references rs) (λ d. references-length rs d few) k

  pub visit-grows : (r : Reference) (k : ℕ) (s : State) → Growth s (taken_up rs r k s) 1
  visit-grows r k s = resolve-growth (visit k (references rs)) (visits-grow k) r s

  walk-grows : (p k : ℕ) (s : State) → Growth s (walked rs p k s) (length (field_references rs p (length rs - p)))
  walk-grows p k s = walk-growth (visit k (references rs)) (visits-grow k) (field_references rs p (length rs - p)) s

-- as `Steps`, where the progress was o before the visits
abbrev pub StepsFrom : List Record → VisitProgress → (ℕ → State → State) → VisitProgress → List ℕ → VisitProgress → List ℕ → Type 0
StepsFrom rs o g a f a' f' = (k : ℕ) (f₀ : List ℕ) (s : State) → unvisited_in rs a < k → StateHeld rs o f₀ s a f → StateHeld rs o f₀ (g k s) a' f'

module _ (rs : List Record) {a : VisitProgress} {f : List ℕ} where
  unfoldable pub relax : {x y x' y' : ℕ} → VisitReady rs a f x y → x' ≤ x → y' ≤ y → VisitReady rs a f x' y'
  relax h p q = record {
    state = h.state;
    origin = h.origin;
    buffer₀ = h.buffer₀;
    held = h.held;
    few = h.few;
    size = h.size;
    room = let r = h.room in omega arith;
    spare = let r = h.spare in omega arith;
  }

  pub note-fits : {y : ℕ} → VisitReady rs a f 1 y → a.tally.total + 1 < 2 ^ 64
  note-fits h = let t = held-total rs h.held in let s = h.spare in omega arith

  -- after a step g, by which the faults grow by z at most
  module _ (x : ℕ) {y z : ℕ} (h : VisitReady rs a f (x + z) y) {a' : VisitProgress} {f' : List ℕ} (g : ℕ → State → State) (grows : (k : ℕ) (s : State) → Growth s (g k s) z) (v : StepsFrom rs h.origin g a f a' f') (k : ℕ) (n : unvisited_in rs a < k) where
    pub falls : unvisited_in rs a' ≤ unvisited_in rs a
    falls = rw (h.held.marks_are, (v k h.buffer₀ h.state n h.held).marks_are) (grows k h.state).falls

    unfoldable pub after : VisitReady rs a' f' x y
    after =
        let b = grows k h.state in
        let r = h.room in
        let s = h.spare in
        let br = b.room in
        let bs = b.spare in
        record {
          state = g k h.state;
          origin = h.origin;
          buffer₀ = h.buffer₀;
          held = v k h.buffer₀ h.state n h.held;
          few = h.few;
          size = b.size ∙ h.size;
          room = omega arith;
          spare = omega arith;
        }

-- ---- what each call requires and each return ensures

module _ (rs : List Record) {a : VisitProgress} {f : List ℕ} where
  pub ret-follow : {r : Reference} {d : ℕ} {a' : VisitProgress} {f' : List ℕ} → r ≡ Follow d → Visited rs (Follow d) a f a' f' → Visited rs r a f a' f'
  ret-follow e v = rw e v

  pub ret-wrong : {r : Reference} {c p : ℕ} {a' : VisitProgress} {f' : List ℕ} → r ≡ Wrong c p → Noted rs a f c p a' f' → Visited rs r a f a' f'
  ret-wrong e n = rw e (λ k _ f₀ s _ h. held-note rs h n)

  module _ {d : ℕ} (l : d < length rs) (h : VisitReady rs a f 1 0) where
    -- the mark that is read
    mark-held : {o : VisitProgress} {f₀ : List ℕ} {s : State} → StateHeld rs o f₀ s a f → get_or a.marks d 0 ≡ mark_of s d
    mark-held e = grind (arith, common_steps, h.held.marks_are, h.size, e.marks_are, same-default (take (length rs) a.marks) d 0 2)

    pub ret-open : {a' : VisitProgress} {f' : List ℕ} → get_or a.marks d 0 ≡ 1 → Noted rs a f 2 d a' f' → Visited rs (Follow d) a f a' f'
    unfolding visit enter
    ret-open e n zero _ f₀ s u i = absurd (omega arith)
    ret-open e n (suc k) _ f₀ s u i = grind (arith, common_steps, held-note rs i n, mark-held i)

    pub ret-listed : ¬ (get_or a.marks d 0 ≡ 0) → ¬ (get_or a.marks d 0 ≡ 1) → Visited rs (Follow d) a f a f
    unfolding visit enter
    ret-listed e n zero _ f₀ s u i = absurd (omega arith)
    ret-listed e n (suc k) _ f₀ s u i = grind (arith, common_steps, mark-held i)

    module _ (e : get_or a.marks d 0 ≡ 0) where
      one-less : unvisited_count h.state.marks ≡ suc (unvisited_count (set h.state.marks d 1))
      one-less = unvisited-opened h.state.marks d (sym (mark-held h.held) ∙ e)

      fewer : unvisited_in rs a ≡ suc (unvisited_in rs (opening d a))
      fewer = rw (h.held.marks_are, (held-open rs h.held l).marks_are) one-less

      open-ready : VisitReady rs (opening d a) f 2049 1
      open-ready =
          let n = one-less in
          let r = h.room in
          let s = h.spare in
          record {
            state = opened d h.state;
            origin = h.origin;
            buffer₀ = h.buffer₀;
            held = held-open rs h.held l;
            few = h.few;
            size = length-set h.state.marks d 1 ∙ h.size;
            room = omega arith;
            spare = omega arith;
          }

      pub call-walk : {t : ℕ} → unvisited_in rs a * 3 ≡ t → (unvisited_in rs (opening d a) * 3 + 2 < t) × VisitReady rs (opening d a) f (length rs - (d + 1)) 0
      call-walk q = let n = fewer in let w = h.few in (omega arith, relax rs open-ready (omega arith) (omega arith))

      module _ {b : VisitProgress} {g : List ℕ} (w : Walked rs (d + 1) (opening d a) f b g) where
        fields-ready : VisitReady rs (opening d a) f (1 + length (field_references rs (d + 1) (length rs - (d + 1)))) 1
        fields-ready = let n = fields-length rs (d + 1) (length rs - (d + 1)) in let y = h.few in relax rs open-ready (omega arith) (omega arith)

        walked-falls : unvisited_in rs b ≤ unvisited_in rs (opening d a)
        walked-falls = falls rs 1 fields-ready (walked rs (d + 1)) (walk-grows rs h.few (d + 1)) (λ k. w k _) (suc (unvisited_in rs (opening d a))) (omega arith)

        walked-ready : VisitReady rs b g 1 1
        walked-ready = after rs 1 fields-ready (walked rs (d + 1)) (walk-grows rs h.few (d + 1)) (λ k. w k _) (suc (unvisited_in rs (opening d a))) (omega arith)

        module _ {q : Reference} (qe : q ≡ own_reference rs d) where
          pub call-own : {t : ℕ} → unvisited_in rs a * 3 ≡ t → (unvisited_in rs b * 3 + 1 < t) × (Within (length rs) q × VisitReady rs b g 1 0)
          call-own y =
              let n = fewer in
              let k = walked-falls in
              (omega arith, (rw qe (within-own rs d), relax rs walked-ready (omega arith) (omega arith)))

          module _ {c : VisitProgress} {o : List ℕ} (v : Visited rs q b g c o) where
            pub call-list : (d < 1600) × (c.listed < 1600)
            call-list =
                let y = after rs 0 walked-ready (taken_up rs q) (visit-grows rs h.few q) (λ k. v k _) (suc (unvisited_in rs b)) (omega arith) in
                let p = y.room in
                let n = y.few in
                let i = y.held.listed_is in
                (omega arith, omega arith)

            pub ret-new : {a' : VisitProgress} → a' ≡ listing d c → Visited rs (Follow d) a f a' o
            unfolding visit enter references
            ret-new p zero _ f₀ s u i = absurd (omega arith)
            ret-new p (suc k) o₀ f₀ s u i =
                let n = fewer in
                let m = walked-falls in
                let z = held-list rs (v k o₀ f₀ (walked rs (d + 1) k (opened d s)) (omega arith) (w k o₀ f₀ (opened d s) (omega arith) (held-open rs i l))) l in
                grind (arith, common_steps, z, mark-held i, walk-last (visit k (references rs)) (field_references rs (d + 1) (length rs - (d + 1))) (own_reference rs d) (opened d s))

-- ---- the loop over the fields

-- the fields from p up to q are taken up: what is left makes the whole
pub record Walking (rs : List Record) (p : ℕ) (a₀ : VisitProgress) (f₀ : List ℕ) (a : VisitProgress) (f : List ℕ) (q : ℕ) : Type 0 where
  pub ready : VisitReady rs a f (length rs - q) 0
  pub fewer : unvisited_in rs a ≤ unvisited_in rs a₀
  pub rest : (a' : VisitProgress) (f' : List ℕ) → Walked rs q a f a' f' → Walked rs p a₀ f₀ a' f'

pub walk-start : (rs : List Record) (p : ℕ) (a : VisitProgress) (f : List ℕ) → VisitReady rs a f (length rs - p) 0 → Walking rs p a f a f p
walk-start rs p a f h = record { ready = h; fewer = omega arith; rest = λ a' f' w. w }

module _ (rs : List Record) {p q : ℕ} {a₀ : VisitProgress} {f₀ : List ℕ} {a : VisitProgress} {f : List ℕ} (i : Walking rs p a₀ f₀ a f q) where
  -- no field is left
  none-left : field_references rs q (length rs - q) ≡ [] → Walked rs p a₀ f₀ a f
  unfolding walk
  none-left e = i.rest a f (λ k _ g₀ s n h. rw e h)

  pub walk-decl : is_decl (at rs q).kind ≡ true → Walked rs p a₀ f₀ a f
  walk-decl e = none-left (fields-decl rs q (length rs - q) e)

  pub walk-past : length rs ≤ q → Walked rs p a₀ f₀ a f
  walk-past l = none-left (fields-past rs q l)

  module _ (l : q < length rs) (e : is_decl (at rs q).kind ≡ false) where
    pub walk-skip : may_refer (at rs q).kind ≡ false → Walking rs p a₀ f₀ a f (q + 1)
    unfolding walk
    walk-skip r = record {
      ready = relax rs i.ready (omega arith) (omega arith);
      fewer = i.fewer;
      rest = λ a' f' w. i.rest a' f' (λ k o g₀ s n h. rw (fields-one rs q l e, nowhere rs q r) (w k o g₀ s n h));
    }

    module _ {r : Reference} (re : r ≡ field_reference rs q) where
      pub walk-call : {t : ℕ} → unvisited_in rs a₀ * 3 + 2 ≡ t → (unvisited_in rs a * 3 + 1 < t) × (Within (length rs) r × VisitReady rs a f 1 0)
      walk-call y = let n = i.fewer in (omega arith, (rw re (within-field rs q), relax rs i.ready (omega arith) (omega arith)))

      pub walk-turn : (a' : VisitProgress) (f' : List ℕ) → Visited rs r a f a' f' → Walking rs p a₀ f₀ a' f' (q + 1)
      unfolding walk
      walk-turn a' f' v =
          let h : VisitReady rs a f (length rs - (q + 1) + 1) 0 = relax rs i.ready (omega arith) (omega arith) in
          let n = falls rs (length rs - (q + 1)) h (taken_up rs r) (visit-grows rs i.ready.few r) (λ k. v k _) (suc (unvisited_in rs a)) (omega arith) in
          let n₀ = i.fewer in
          record {
            ready = after rs (length rs - (q + 1)) h (taken_up rs r) (visit-grows rs i.ready.few r) (λ k. v k _) (suc (unvisited_in rs a)) (omega arith);
            fewer = omega arith;
            rest = λ a₂ f₂ w. i.rest a₂ f₂ (λ k o g₀ s u j. rw (fields-one rs q l e, ← re) (w k o g₀ (taken_up rs r k s) (omega arith) (v k o g₀ s u j)));
          }
