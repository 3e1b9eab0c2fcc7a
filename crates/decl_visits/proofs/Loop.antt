-- The loop of the whole pass: what holds where it begins, after each turn, and at its end. Assumes nothing.
use mathlib.Core.Path.{◌≡◌, refl}
use mathlib.Core.Bool.{false}
use mathlib.Core.List.{List}
use Prim.Native.Nat.{ℕ, suc, ◌+◌, ◌-◌, ◌<◌, ◌≤◌}
use native.Mathlib.Omega.{arith}
use lib.ListN.{length, take, replicate, length-replicate}
use lib.Seq.{sets-eq, take-append_seam}
use Rattle.std.proofs.lemmas.List.{take-replicate}
use Rattle.std.proofs.lemmas.List.Sums.{count_by-le-length}
use lib.Dec.{eqb}
use Rattle.rules.specs.Kinds.{is_decl}
use Rattle.rules.specs.Table.{at}
use Rattle.rules.specs.Faults.{log}
use Rattle.rules.specs.Visits.{State, walk, visit, unvisited, visit_all}
use Rattle.rules.specs.DeclIdentifiers.{references, root_reference, root_references, visited}
use Rattle.rules.specs.declared.Record.{Record}
use Rattle.rules.specs.declared.Reference.{Reference}
use Rattle.faults.specs.Notes.{no_faults}
use Rattle.faults.proofs.Laws.{noted-none}
use Rattle.decl_visits.specs.declared.VisitProgress.{VisitProgress}
use Rattle.decl_visits.specs.Contract.{unvisited_count, unvisited_in, started, StateHeld, VisitReady, Within, taken_up}
use Rattle.decl_visits.proofs.Growth.{unvisited-all, walk-growth, visit-growth, references-length}
use Rattle.decl_visits.proofs.VisitReady.{StepsFrom, relax, after, visit-grows, within-root, root-nowhere}

unvisited-few : (l : List ℕ) {n : ℕ} → length l ≡ n → unvisited_count l < suc n
unfolding unvisited_count
unvisited-few l e = omega (arith, count_by-le-length (λ (m : ℕ). eqb m 0) l)

-- what the roots from p on make of a state
abbrev rest_of : List Record → ℕ → State → State
rest_of rs p s = walk (visit (suc (length rs)) (references rs)) (root_references rs p (length rs - p)) s

-- the roots below p are taken up
pub record Turn (rs : List Record) (o : VisitProgress) (f₀ : List ℕ) (a : VisitProgress) (f : List ℕ) (p : ℕ) : Type 0 where
  pub ready : VisitReady rs a f (length rs - p) 0
  pub from : ready.origin ≡ o
  pub began : ready.buffer₀ ≡ f₀
  pub rest : rest_of rs p ready.state ≡ visited rs

-- a new progress may be lent
pub marks-started : (n : ℕ) → n ≤ 1600 → take n started.marks ≡ replicate n 0
unfolding started
marks-started n h = take-replicate n 1600 0 h

pub places-started : length started.places ≡ 1600
unfolding started
places-started = length-replicate {A = ℕ} 1600 0

-- nothing is listed and no fault found yet
abbrev pub reset : VisitProgress → VisitProgress
reset o = record { marks = o.marks; places = o.places; listed = 0; tally = no_faults }

pub loop-start : (rs : List Record) (o : VisitProgress) (f : List ℕ) → length rs ≤ 1600 → take (length rs) o.marks ≡ replicate (length rs) 0 → Turn rs o f (reset o) f 0
unfolding visited visit_all
loop-start rs o f few e = record {
  ready = record {
    state = unvisited (length rs);
    origin = o;
    buffer₀ = f;
    held = record {
      marks_are = e;
      marks_rest = refl;
      places_are = refl;
      listed_is = refl;
      faults_are = noted-none (log no_faults f);
    };
    few = few;
    size = length-replicate (length rs) 0;
    room = omega (arith, unvisited-all (length rs));
    spare = omega (arith, unvisited-all (length rs));
  };
  from = refl;
  began = refl;
  rest = let z : length rs - 0 ≡ length rs = omega arith in rw z;
}

module _ (rs : List Record) {o : VisitProgress} {f₀ : List ℕ} {a : VisitProgress} {f : List ℕ} {p : ℕ} (h : Turn rs o f₀ a f p) where
  pub loop-end : length rs ≤ p → StateHeld rs o f₀ (visited rs) a f
  unfolding walk root_references
  loop-end l =
      let z : length rs - p ≡ 0 = omega arith in
      rw (← h.from, ← h.began, ← (rw z at h.rest)) h.ready.held

  module _ (l : p < length rs) {r : Reference} (e : r ≡ root_reference rs p) where
    pub loop-call : Within (length rs) r × VisitReady rs a f 1 0
    loop-call = (rw e (within-root rs p l), relax rs h.ready (omega arith) (omega arith))

    pub loop-turn : (a' : VisitProgress) (f' : List ℕ) → StepsFrom rs o (taken_up rs r) a f a' f' → Turn rs o f₀ a' f' (p + 1)
    unfolding walk root_references relax after
    loop-turn a' f' v =
        let n : unvisited_in rs a < suc (length rs) = rw h.ready.held.marks_are (unvisited-few h.ready.state.marks h.ready.size) in
        let z : length rs - p ≡ suc (length rs - (p + 1)) = omega arith in
        record {
          ready = after rs (length rs - (p + 1)) (relax rs h.ready (omega arith) (omega arith)) (taken_up rs r) (visit-grows rs h.ready.few r) (rw h.from v) (suc (length rs)) n;
          from = h.from;
          began = h.began;
          rest = rw e (rw z at h.rest);
        }

  -- only a declaration refers to anything
  pub loop-skip : p < length rs → is_decl (at rs p).kind ≡ false → Turn rs o f₀ a f (p + 1)
  loop-skip l e = loop-turn l (root-nowhere rs p e) a f (λ k g₀ s n i. i)

-- no more places are listed than the table has
pub order-short : (rs : List Record) → length rs ≤ 1600 → length (visited rs).order ≤ length rs
unfolding visited visit_all
order-short rs few =
    let k = suc (length rs) in
    let b = (walk-growth (visit k (references rs)) (visit-growth (references rs) (λ d. references-length rs d few) k) (root_references rs 0 (length rs)) (unvisited (length rs))).room in
    let n = unvisited-all (length rs) in
    omega arith

-- the first places are the order
pub order-read : (rs : List Record) (o : VisitProgress) (f₀ : List ℕ) (a : VisitProgress) (f : List ℕ) → length rs ≤ length o.places → length rs ≤ 1600 → StateHeld rs o f₀ (visited rs) a f → take a.listed a.places ≡ (visited rs).order
order-read rs o f₀ a f fits few h =
    let s = order-short rs few in
    let l : 0 + length (visited rs).order ≤ length o.places = omega arith in
    rw (h.places_are, h.listed_is, sets-eq (visited rs).order o.places 0 l, take-append_seam)
