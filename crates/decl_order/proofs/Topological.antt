-- A pass that finds no fault lists the declarations in topological order, and they are faultless. Assumes nothing.
use Rattle.std.proofs.lemmas.Grind.{common_steps}
use mathlib.Core.Path.{◌≡◌, refl, sym, ◌∙◌, ap, subst}
use mathlib.Core.Logic.{◌⊎◌, inl, inr, ⊎_elim}
use mathlib.Core.List.Memᴰ
use mathlib.Core.List.{List, [], ◌∷◌, ◌++◌, Memᴰ}
use Prim.Native.Nat.{ℕ, zero, suc, ◌<◌, ◌≤◌}
use native.Mathlib.Nat.{le_refl}
use native.Mathlib.Omega.{arith}
use lib.ListN.{length, get_or, length-append, length-set, length-replicate, get_or-append}
use Rattle.rules.specs.declared.Reference.{Reference}
use Rattle.rules.specs.declared.Reference.TheVariants.{Nowhere, Wrong, Follow}
use Rattle.rules.specs.Visits.{PlaceFault, State, mark_of, opened, faulted, listed, walk, enter, visit, unvisited, visit_all}
use Rattle.decl_visits.specs.Contract.{unvisited_count}
use Rattle.decl_order.proofs.Reachability.{Reaches, one, step, TopologicalOrder, Faultless}
use Rattle.decl_visits.proofs.Growth.{unvisited-set, unvisited-opened, unvisited-all}

-- ---- what a reference is

pub follow-inj : {x y : ℕ} → Follow x ≡ Follow y → x ≡ y
follow-inj e = cc

pub follow-wrong : {x c p : ℕ} → Wrong c p ≡ Follow x → ⊥
follow-wrong e = let z : ◌≡◌ {A = ℕ} 0 1 = cc in omega arith

pub follow-nowhere : {x : ℕ} → Follow x ≡ Nowhere → ⊥
follow-nowhere e = let z : ◌≡◌ {A = ℕ} 0 1 = cc in omega arith

pub wrong-nowhere : {c p : ℕ} → Wrong c p ≡ Nowhere → ⊥
wrong-nowhere e = let z : ◌≡◌ {A = ℕ} 0 1 = cc in omega arith

-- ---- faults are only ever added

snoc-nil : (l : List PlaceFault) (x : PlaceFault) → (l ++ (x ∷ [])) ≡ [] → ⊥
snoc-nil l x e = omega (arith, simp length-append at (ap length e))

abbrev Adds : (ℕ → State → State) → Type 0
Adds v = (d : ℕ) (s : State) → (v d s).faults ≡ [] → s.faults ≡ []

walk-adds : (v : ℕ → State → State) → Adds v → (l : List Reference) (s : State) → (walk v l s).faults ≡ [] → s.faults ≡ []
unfolding walk
walk-adds v h [] s e = e
walk-adds v h (Nowhere ∷ l) s e = walk-adds v h l s e
walk-adds v h (Wrong c p ∷ l) s e = absurd (snoc-nil s.faults (record { code = c; place = p }) (walk-adds v h l (faulted c p s) e))
walk-adds v h (Follow x ∷ l) s e = h x s (walk-adds v h l (v x s) e)

visit-adds : (k : ℕ) (f : ℕ → List Reference) → Adds (visit k f)
unfolding visit enter
visit-adds zero f d s e = e
visit-adds (suc k) f d s e = grind (arith, common_steps, walk-adds (visit k f) (visit-adds k f) (f d) (opened d s), snoc-nil s.faults (record { code = 2; place = d }))

-- ---- what visits without a fault leave

-- listed one by one, each once, after all that it follows, and with no fault of its own
pub data ListedInOrder (f : ℕ → List Reference) : List ℕ → Type 0 where
  none : ListedInOrder f []
  more : {l : List ℕ} {d : ℕ} → ListedInOrder f l → ((e : ℕ) → Memᴰ (Follow e) (f d) → Memᴰ e l)
      → ((c p : ℕ) → Memᴰ (Wrong c p) (f d) → ⊥) → (Memᴰ d l → ⊥) → ListedInOrder f (l ++ (d ∷ []))

module _ (f : ℕ → List Reference) (D : ℕ → Type 0) (n : ℕ)
    (closed : (d e : ℕ) → D d → Memᴰ (Follow e) (f d) → D e)
    (below : (d : ℕ) → D d → d < n) where
  record Inv (s : State) : Type 0 where
    size : length s.marks ≡ n
    legal : (i : ℕ) → mark_of s i ≤ 2
    listed_in : (e : ℕ) → e < n → mark_of s e ≡ 2 → Memᴰ e s.order
    in-listed : (e : ℕ) → Memᴰ e s.order → mark_of s e ≡ 2
    ordered : ListedInOrder f s.order
    declared : (e : ℕ) → Memᴰ e s.order → D e

  record Done (s s' : State) : Type 0 where
    inv : Inv s'
    keeps : (i : ℕ) → ¬ (mark_of s i ≡ 0) → mark_of s' i ≡ mark_of s i
    falls : unvisited_count s'.marks ≤ unvisited_count s.marks

  abbrev Sorts : (ℕ → State → State) → ℕ → Type 0
  Sorts v k = (d : ℕ) (s : State) → D d → unvisited_count s.marks < k → Inv s → (v d s).faults ≡ [] → Done s (v d s) × (mark_of (v d s) d ≡ 2)

  record SortedWalk (l : List Reference) (s s' : State) : Type 0 where
    done : Done s s'
    all : (e : ℕ) → Memᴰ (Follow e) l → mark_of s' e ≡ 2
    right : (c p : ℕ) → Memᴰ (Wrong c p) l → ⊥

  walk-sorts : (v : ℕ → State → State) (k : ℕ) → Sorts v k → Adds v → (l : List Reference) (s : State) → ((e : ℕ) → Memᴰ (Follow e) l → D e)
      → unvisited_count s.marks < k → Inv s → (walk v l s).faults ≡ [] → SortedWalk l s (walk v l s)
  unfolding walk
  walk-sorts v k h a [] s w q i z = record {
    done = record { inv = i; keeps = λ _ _. refl; falls = le_refl (unvisited_count s.marks) };
    all = λ e m. absurd (Memᴰ.not-nil m);
    right = λ c p m. absurd (Memᴰ.not-nil m);
  }
  walk-sorts v k h a (Nowhere ∷ l) s w q i z =
      let r = walk-sorts v k h a l s (λ e m. w e (Memᴰ.tail m)) q i z in
      record {
        done = r.done;
        all = λ e m. grind (arith, common_steps, Memᴰ.cases_cons m, r.all e);
        right = λ c p m. grind (arith, common_steps, Memᴰ.cases_cons m, r.right c p);
      }
  walk-sorts v k h a (Wrong c p ∷ l) s w q i z = absurd (snoc-nil s.faults (record { code = c; place = p }) (walk-adds v a l (faulted c p s) z))
  walk-sorts v k h a (Follow x ∷ l) s w q i z =
      let b = h x s (w x (Memᴰ.head refl)) q i (walk-adds v a l (v x s) z) in
      let g = b.0.falls in
      let r = walk-sorts v k h a l (v x s) (λ e m. w e (Memᴰ.tail m)) (omega arith) b.0.inv z in
      record {
        done = record { inv = r.done.inv; keeps = λ j y. grind (arith, common_steps, r.done.keeps j, b.0.keeps j); falls = omega (arith, r.done.falls) };
        all = λ e m. grind (arith, common_steps, Memᴰ.cases_cons m, r.all e, r.done.keeps x, b.1);
        right = λ c p m. grind (arith, common_steps, Memᴰ.cases_cons m, r.right c p);
      }

  -- d, not visited yet, is opened
  open-inv : (d : ℕ) (s : State) → d < n → mark_of s d ≡ 0 → Inv s → Inv (opened d s)
  open-inv d s l z i = grind (arith, common_steps)

  -- d, which is being visited, is listed: all that it follows is listed, and none of its references is a fault
  list-inv : (d : ℕ) (s : State) → D d → mark_of s d ≡ 1 → ((e : ℕ) → Memᴰ (Follow e) (f d) → mark_of s e ≡ 2)
      → ((c p : ℕ) → Memᴰ (Wrong c p) (f d) → ⊥) → Inv s → Inv (listed d s)
  list-inv d s dd z all q i = record {
    size = length-set s.marks d 2 ∙ i.size;
    legal = λ j. grind (arith, common_steps, i.legal j);
    listed_in = λ e b m. grind (arith, common_steps, λ (y : e ≡ d). Memᴰ.append_right s.order (Memᴰ.head {xs = []} y), λ (m : mark_of s e ≡ 2). Memᴰ.append_left (d ∷ []) (i.listed_in e b m));
    in-listed = λ e m. grind (arith, common_steps, Memᴰ.append_cases s.order m, i.in-listed e, λ (y : Memᴰ e (d ∷ [])). Memᴰ.eq_of_singleton y, below d dd);
    ordered = more i.ordered (λ e m. i.listed_in e (below e (closed d e dd m)) (all e m)) q (λ m. grind (arith, common_steps, i.in-listed d m));
    declared = λ e m. ⊎_elim (λ y. i.declared e y) (λ y. subst D (sym (Memᴰ.eq_of_singleton y)) dd) (Memᴰ.append_cases s.order m);
  }

  -- the visit of a declaration not visited yet
  open-sorts : (v : ℕ → State → State) (k : ℕ) → Sorts v k → Adds v → (d : ℕ) (s : State) → D d → unvisited_count s.marks < suc k → Inv s → mark_of s d ≡ 0
      → (walk v (f d) (opened d s)).faults ≡ [] → Done s (listed d (walk v (f d) (opened d s))) × (mark_of (listed d (walk v (f d) (opened d s))) d ≡ 2)
  open-sorts v k h a d s dd q i m z =
      let s₁ = walk v (f d) (opened d s) in
      let o = unvisited-opened s.marks d m in
      let l = below d dd in
      let size = i.size in
      let r = walk-sorts v k h a (f d) (opened d s) (λ e g. closed d e dd g) (omega arith) (open-inv d s l m i) z in
      let at₁ : mark_of s₁ d ≡ 1 = grind (arith, common_steps, r.done.keeps d) in (
        record {
          inv = list-inv d s₁ dd at₁ r.all r.right r.done.inv;
          keeps = λ j y. grind (arith, common_steps, r.done.keeps j);
          falls = omega (arith, r.done.falls, unvisited-set s₁.marks d 1);
        },
        grind (arith, common_steps, r.done.inv.size),
      )

  visit-sorts : (k : ℕ) → Sorts (visit k f) k
  unfolding visit enter
  visit-sorts zero d s dd q i z = absurd (omega arith)
  visit-sorts (suc k) d s dd q i z =
      grind (arith, common_steps, open-sorts (visit k f) k (visit-sorts k) (visit-adds k f) d s dd q i, i.legal d, snoc-nil s.faults (record { code = 2; place = d }))

-- ---- an ordered list, by its indices

pub mem-at : (l : List ℕ) (i : ℕ) → i < length l → Memᴰ (get_or l i 0) l
mem-at [] i h = absurd (omega arith)
mem-at (x ∷ l) zero h = Memᴰ.head refl
mem-at (x ∷ l) (suc i) h = Memᴰ.tail (mem-at l i (omega arith))

index_of : {e : ℕ} {l : List ℕ} → Memᴰ e l → (j : ℕ) × (j < length l) × (get_or l j 0 ≡ e)
index_of (Memᴰ.head y) = (zero, omega arith, sym y)
index_of (Memᴰ.tail m) = let r = index_of m in let h = r.1 in (suc r.0, omega arith, r.2)

-- an index of l ++ (d ∷ []) is one of l, or the last
last_or : (l : List ℕ) (d i : ℕ) → i < length (l ++ (d ∷ [])) → ((i < length l) × (get_or (l ++ (d ∷ [])) i 0 ≡ get_or l i 0)) ⊎ ((i ≡ length l) × (get_or (l ++ (d ∷ [])) i 0 ≡ d))
last_or l d i h = grind (arith, common_steps)

mem-last : {l : List ℕ} {x d : ℕ} → Memᴰ d (l ++ x ∷ []) → Memᴰ d l ⊎ (d ≡ x)
mem-last {l} m = ⊎_elim inl (λ y. inr (Memᴰ.eq_of_singleton y)) (Memᴰ.append_cases l m)

module _ {f : ℕ → List Reference} where
  once : {l : List ℕ} → ListedInOrder f l → (i j : ℕ) → i < length l → j < length l → get_or l i 0 ≡ get_or l j 0 → i ≡ j
  once none i j h g e = absurd (omega arith)
  once (more {l = l} {d = d} o a q u) i j h g e = grind (arith, common_steps, once o i j, last_or l d i h, last_or l d j g, mem-at l i, mem-at l j, u)

  after : {l : List ℕ} → ListedInOrder f l → (i e : ℕ) → i < length l → Memᴰ (Follow e) (f (get_or l i 0)) → (j : ℕ) × (j < i) × (get_or l j 0 ≡ e)
  after none i e h m = absurd (omega arith)
  after (more {l = l} {d = d} o a q u) i e h m =
      ⊎_elim
      (λ x.
      let r = after o i e x.0 (subst (λ y. Memᴰ (Follow e) (f y)) x.1 m) in
      let b = r.1 in
      let c = x.0 in
      (r.0, b, get_or-append l (d ∷ []) 0 r.0 (omega arith) ∙ r.2))
      (λ x.
      let r = index_of (a e (subst (λ y. Memᴰ (Follow e) (f y)) x.1 m)) in
      (r.0, subst (λ y. r.0 < y) (sym x.0) r.1, get_or-append l (d ∷ []) 0 r.0 r.1 ∙ r.2))
      (last_or l d i h)

  right-in : {l : List ℕ} → ListedInOrder f l → (d : ℕ) → Memᴰ d l → (c p : ℕ) → Memᴰ (Wrong c p) (f d) → ⊥
  right-in none d m c p g = Memᴰ.not-nil m
  right-in (more o a q u) d m c p g = grind (arith, common_steps, mem-last m, right-in o d, q c p)

  -- what a listed declaration follows is listed
  closed_in : {l : List ℕ} → ListedInOrder f l → (d e : ℕ) → Memᴰ d l → Memᴰ (Follow e) (f d) → Memᴰ e l
  closed_in none d e m g = absurd (Memᴰ.not-nil m)
  closed_in (more {d = x} o a q u) d e m g = Memᴰ.append_left (x ∷ []) (grind (arith, common_steps, mem-last m, closed_in o d e, a e))

  reaches-in : {l : List ℕ} → ListedInOrder f l → {d e : ℕ} → Memᴰ d l → Reaches f d e → Memᴰ e l
  reaches-in o {d} {e} m (one g) = closed_in o d e m g
  reaches-in o {d} m (step {x = x} g w) = reaches-in o (closed_in o d x m g) w

  acyclic-in : {l : List ℕ} → ListedInOrder f l → (d : ℕ) → Memᴰ d l → Reaches f d d → ⊥
  acyclic-in none d m w = Memᴰ.not-nil m
  acyclic-in (more {l = l} {d = x} o a q u) d m w = ⊎_elim (λ y. acyclic-in o d y w) (λ y. u (last_step (subst (λ z. Reaches f z z) y w))) (mem-last m)
    where
      last_step : {e : ℕ} → Reaches f x e → Memᴰ e l
      last_step {e} (one g) = a e g
      last_step (step {x = y} g w') = reaches-in o (a y g) w'

-- ---- all visits

module _ (n : ℕ) (f : ℕ → List Reference) (roots : List Reference)
    (closed : (d e : ℕ) → Memᴰ (Follow d) roots → Memᴰ (Follow e) (f d) → Memᴰ (Follow e) roots)
    (below : (d : ℕ) → Memᴰ (Follow d) roots → d < n)
    (clean : (visit_all n f roots).faults ≡ []) where
  abbrev D : ℕ → Type 0
  D d = Memᴰ (Follow d) roots

  through : SortedWalk f D n closed below roots (unvisited n) (visit_all n f roots)
  unfolding visit_all
  through =
      walk-sorts f D n closed below (visit (suc n) f) (suc n) (visit-sorts f D n closed below (suc n)) (visit-adds (suc n) f) roots (unvisited n) (λ e m. m)
      (omega (arith, unvisited-all n))
      (record {
        size = length-replicate n 0;
        legal = λ i. grind (arith, common_steps);
        listed_in = λ e b m. absurd (grind (arith, common_steps));
        in-listed = λ e m. absurd (Memᴰ.not-nil m);
        ordered = none;
        declared = λ e m. absurd (Memᴰ.not-nil m);
      })
      clean

  -- the places are listed in order
  pub in_order : ListedInOrder f (visit_all n f roots).order
  in_order = through.done.inv.ordered

  pub topological : TopologicalOrder f roots (visit_all n f roots).order
  topological = grind (arith, common_steps, through, once through.done.inv.ordered, after through.done.inv.ordered)

  pub faultless : Faultless f roots
  faultless = grind (arith, common_steps, through, right-in through.done.inv.ordered, acyclic-in through.done.inv.ordered)
