-- The passes in order. Assumes nothing.
use Rattle.std.proofs.Common.{ℕ, suc, ◌≡◌, ◌+◌, ◌<◌, ◌≤◌, ◌∙◌, refl, ap, arith, List, true, false, length, Ok, Err, Result, MatchResult, lt-ltb, le-ltb}
use Rattle.rules.specs.Places.{first}
use Rattle.rules.specs.Faults.{Log, log, logged}
use Rattle.rules.specs.Replies.{later_faults, faults_of, finds_faults}
use Rattle.rules.specs.declared.Record.{Record}
use Rattle.rules.specs.declared.Tally.{Tally}
use Rattle.rules.specs.DeclIdentifiers.{ordered}
use Rattle.faults.proofs.Laws.{logged_none}
use Rattle.pass_checks.specs.declared.Faulty.{Faulty}
use Rattle.pass_checks.specs.Later.{outcome, finds_later, by_later, later}

-- the passes below k find nothing, and leave the buffer; n are left
pub record CleanBelow (rs : List Record) (b : List ℕ) (k n : ℕ) (l : List ℕ) : Type 0 where
  pub same : l ≡ b
  pub left : first (finds_later rs) 3 7 ≡ first (finds_later rs) k n

pub clean_start : (rs : List Record) (b : List ℕ) → CleanBelow rs b 3 7 b
clean_start rs b = record { same = refl; left = refl }

module _ {rs : List Record} {b l m : List ℕ} {k n : ℕ} {t : Tally} (w : CleanBelow rs b k (suc n) l) (e : log t m ≡ logged l (later_faults k rs)) where
  total-later : t.total ≡ length (later_faults k rs)
  unfolding logged
  total-later = ap (λ (x : Log). x.tally.total) e

  -- pass k finds nothing
  pub clean_next : t.total ≤ 0 → CleanBelow rs b (k + 1) n m
  unfolding first
  clean_next z =
      let none : length (later_faults k rs) ≤ 0 = omega (arith, total-later) in
      let f : finds_later rs k ≡ false = le-ltb 0 _ none in
      record {
        same = ap (λ (x : Log). x.buffer) (e ∙ logged_none l (later_faults k rs) none) ∙ w.same;
        left = w.left ∙ rw (first, f);
      }

  -- it finds some
  pub faulty_at : {r : Result (Unit {0}) Faulty} {f : Faulty} → (0 < t.total) × (f ≡ record { pass = k; total = t.total }) → r ≡ Err f → outcome r m ≡ later rs b
  unfolding later by_later first
  faulty_at z g =
      let f : finds_later rs k ≡ true = lt-ltb 0 _ (omega (arith, total-later)) in
      rw (g, z.1, w.left, first, f, total-later, ← w.same)
      (ap (λ (x : Log). outcome (Err (record { pass = k; total = length (later_faults k rs) })) x.buffer) e)

-- the last pass finds none, or some
pub clean_last : {rs : List Record} {b l m : List ℕ} {t : Tally} → CleanBelow rs b 9 1 l → log t m ≡ logged l (later_faults 9 rs) → (r : Result (Unit {0}) Faulty)
    → MatchResult r (λ _. t.total ≤ 0) (λ f. (0 < t.total) × (f ≡ record { pass = 9; total = t.total })) → outcome r m ≡ later rs b
unfolding later by_later first
clean_last w e (Ok u) z = let n = clean_next w e z in rw (n.left, n.same)
clean_last w e (Err f) z = faulty_at w e z refl

-- where passes 1 and 2 find no faults, the lowest pass that finds some is the lowest of 3 to 9 on the listed order
pub lowest-later : (rs : List Record) → finds_faults rs 1 ≡ false → finds_faults rs 2 ≡ false → first (finds_faults rs) 1 9 ≡ first (finds_later (ordered rs)) 3 7
unfolding first faults_of
lowest-later rs e h = rw (first, e, first, h)
