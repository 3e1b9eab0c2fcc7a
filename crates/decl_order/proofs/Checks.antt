-- What the visits leave, and the copy after them: the pass whole. Assumes nothing.
use Rattle.std.proofs.lemmas.Grind.{common_steps}
use Rattle.std.proofs.lemmas.List.{nil_from_length}
use mathlib.Core.Path.{◌≡◌, refl, ◌∙◌, ap, subst}
use mathlib.Core.List.{List, ◌++◌, map, Memᴰ}
use Prim.Native.Nat.{ℕ, ◌<◌, ◌≤◌}
use native.Mathlib.Omega.{arith}
use native.Mathlib.Nat.{zero-add}
use lib.ListN.{length, take, drop}
use Rattle.rules.specs.Faults.{log, logged}
use Rattle.rules.specs.DeclIdentifiers.{visited, fault_of, pass2, order, ordered, all_records}
use Rattle.rules.specs.Ordering.{Accepts}
use Rattle.rules.specs.declared.Record.{Record}
use Rattle.faults.specs.Notes.{no_faults}
use Rattle.faults.proofs.Laws.{noted-logged, total-after, logged_none}
use Rattle.decl_visits.specs.declared.VisitProgress.{VisitProgress}
use Rattle.std.specs.Prelude.{Ok, Err}
use Rattle.decl_visits.specs.Contract.{started, StateHeld}
use Rattle.decl_visits.proofs.Loop.{places-started, order-read, order-short}
use Rattle.decl_order.specs.Contract.{Placed, DeclIdentifiersChecked}
use Rattle.decl_order.proofs.Promise.{listed-declared}
use Rattle.decl_order.proofs.Room.{ordered-short}

-- what the visits leave
module _ (rs : List Record) {o : VisitProgress} {f₀ f : List ℕ} {a : VisitProgress} (h : StateHeld rs o f₀ (visited rs) a f) where
  faults-logged : log a.tally f ≡ logged f₀ (pass2 rs)
  unfolding pass2
  faults-logged = h.faults_are ∙ noted-logged f₀ (map (fault_of rs) (visited rs).faults)

  total-is : a.tally.total ≡ length (pass2 rs)
  unfolding pass2
  total-is = total-after no_faults f₀ (map (fault_of rs) (visited rs).faults) h.faults_are ∙ zero-add (length (pass2 rs))

  pub ret-faulty : (out : List Record) → 0 < a.tally.total → DeclIdentifiersChecked rs f₀ out f out (Err a.tally)
  ret-faulty out l = ((λ e. let n = ap length e in absurd (omega (arith, total-is))), faults-logged, refl)

  module _ (z : a.tally.total ≤ 0) (few : length rs ≤ 1600) where
    accepts : Accepts rs
    accepts = nil_from_length (pass2 rs) (omega (arith, total-is))

    -- no fault is kept, and none found
    clean-logged : log no_faults f ≡ logged f₀ (pass2 rs)
    clean-logged = grind (arith, common_steps, faults-logged, logged_none f₀ (pass2 rs), total-is)

    pub listed-short : a.listed ≤ 1600
    listed-short = omega (arith, order-short rs few, h.listed_is)

    module _ {l : List ℕ} (i : o ≡ started) (e : l ≡ take a.listed a.places) where
      is-order : l ≡ order rs
      unfolding order
      is-order = e ∙ order-read rs o f₀ a f (rw (i, places-started) few) few h

      pub call-copy : (out : List Record) → length rs ≤ length out → Placed rs l out
      unfolding ordered
      call-copy out w = record {
        within = λ d m. (listed-declared rs accepts d (subst (λ (x : List ℕ). Memᴰ d x) is-order m)).0;
        fits = rw is-order (omega (arith, ordered-short rs accepts));
      }

      pub ret-copied : {out out' : List Record} {n : ℕ} → (n ≡ length (all_records rs l)) × (out' ≡ all_records rs l ++ drop n out) → DeclIdentifiersChecked rs f₀ out f out' (Ok n)
      unfolding ordered
      ret-copied c = grind (arith, common_steps, accepts, clean-logged, is-order, ordered-short rs accepts)
