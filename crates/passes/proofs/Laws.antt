-- Laws of the passes in their order: what each row of the replies asks of the faults found. Assumes nothing.
use Rattle.std.proofs.Common.{None, Option, Some, Result, Ok, Err}
use Prim.Native.Nat.{ℕ, suc, ◌+◌, ◌<◌, ◌≤◌}
use mathlib.Core.Path.{◌≡◌, refl, sym, ap, ◌∙◌}
use mathlib.Core.List.{List, [], ◌∷◌}
use mathlib.Core.Bool.{Bool, true, false}
use borrow.Author.Tests.{ne_eqb, lt-ltb}
use native.Mathlib.Omega.{arith}
use lib.ListN.{length, take}
use Rattle.rules.specs.Places.{first}
use Rattle.rules.specs.Faults.{Log, log, logged}
use Rattle.rules.specs.Scopes.{pass1}
use Rattle.rules.specs.DeclIdentifiers.{pass2, ordered}
use Rattle.rules.specs.InlineGroups.{inlined}
use Rattle.rules.specs.Replies.{Answer, numbered, answered, faults_of, finds_faults, answered_faulty, by_size, by_pass, by_passes}
use Rattle.rules.specs.declared.Record.{Record}
use Rattle.rules.specs.declared.Fault.{Fault}
use Rattle.rules.specs.declared.Tally.{Tally}
use Rattle.rules.specs.declared.Reply.{Reply}
use Rattle.rules.specs.declared.Reply.TheVariants.{Faulty}
use Rattle.table.proofs.Laws.{first-in}
use Rattle.faults.proofs.Laws.{logged_none}
use Rattle.pass_checks.specs.Later.{Outcome, outcome, checked_numbered, finds_later, by_later, later}
use Rattle.pass_checks.specs.declared.Faulty as checks
use Rattle.pass_checks.proofs.Laws.{lowest-later}
use Rattle.decl_order.specs.Contract.{DeclIdentifiersChecked}
use Rattle.group_sizes.specs.GroupsFirst.{GroupsFirst}
use Rattle.decl_order.proofs.Names.{unique-names}
use Rattle.passes.proofs.Groups.{groups-first}
use Rattle.passes.specs.Listed.{by_listed_pass, by_listed}

-- ---- the faults of a pass

module _ (b : List ℕ) (fs : List Fault) {r : Tally} {l : List ℕ} (e : log r l ≡ logged b fs) where
  pub total-is : r.total ≡ length fs
  unfolding logged
  total-is = ap (λ (x : Log). x.tally.total) e

  pub no-fault : r.total ≤ 0 → (l ≡ b) × (fs ≡ [])
  no-fault z = (ap (λ (x : Log). x.buffer) (e ∙ logged_none b fs (omega (arith, total-is))), none fs (omega (arith, total-is)))
    where
      none : (gs : List Fault) → length gs ≤ 0 → gs ≡ []
      none [] h = refl
      none (g ∷ gs) h = absurd (omega arith)

  pub told : (k : ℕ) (t : List ℕ) → answered (Faulty k r.total) t l ≡ answered_faulty k fs t b
  told k t = rw total-is (ap (λ (x : Log). answered (Faulty k (length fs)) t x.buffer) e)

-- ---- passes 1 and 2, and the listed table

lowest-one : (g : ℕ → Bool) (a n : ℕ) → g a ≡ true → first g a (suc n) ≡ Some a
unfolding first
lowest-one g a n e = rw (first, e)

lowest-two : (g : ℕ → Bool) (a n : ℕ) → g a ≡ false → g (a + 1) ≡ true → first g a (suc (suc n)) ≡ Some (a + 1)
unfolding first
lowest-two g a n e h = rw (first, e, first, h)

module _ (rs : List Record) (t f : List ℕ) where
  pub faulty-one : 0 < length (pass1 rs) → by_passes rs t f ≡ answered_faulty 1 (pass1 rs) t f
  unfolding by_passes by_pass faults_of
  faulty-one h = ap (by_pass rs t f) (lowest-one (finds_faults rs) 1 8 (lt-ltb 0 (length (pass1 rs)) h))

  module _ (clean : pass1 rs ≡ []) where
    pub faulty-two : 0 < length (pass2 rs) → by_passes rs t f ≡ answered_faulty 2 (pass2 rs) t f
    unfolding by_passes by_pass faults_of
    faulty-two h = ap (by_pass rs t f) (lowest-two (finds_faults rs) 1 7 (rw clean) (lt-ltb 0 (length (pass2 rs)) h))

    pub clean-two : pass2 rs ≡ [] → by_passes rs t f ≡ by_listed (ordered rs) t f
    unfolding by_passes by_pass by_listed by_listed_pass faults_of
    clean-two h = ap (by_pass rs t f) (lowest-later rs (rw clean) (rw h)) ∙ same (first (finds_later (ordered rs)) 3 7) refl
      where
        same : (x : Option ℕ) → first (finds_later (ordered rs)) 3 7 ≡ x → by_pass rs t f x ≡ by_listed_pass (ordered rs) t f x
        same None e = refl
        same (Some k) e = let z = first-in (finds_later (ordered rs)) 10 3 k e in let y = z.0 in rw (ne_eqb k 1 (λ w. omega arith), ne_eqb k 2 (λ w. omega arith))

-- ---- passes 3 to 9

-- an outcome with the bytes of the table buffer
abbrev with_table : List ℕ → Outcome → Answer
with_table t o = record { reply = o.reply; table = t; faults = o.faults }

module _ (ls : List Record) (b l t : List ℕ) {x : Result (Unit {0}) checks.Faulty} (e : outcome x l ≡ later ls b) where
  pub faulty-later : {f : checks.Faulty} → x ≡ Err f → answered (Faulty f.pass f.total) t l ≡ by_listed ls t b
  unfolding later by_later by_listed by_listed_pass checked_numbered numbered
  faulty-later {f} h = go (first (finds_later ls) 3 7) (ap (λ (y : Result (Unit {0}) checks.Faulty). outcome y l) (sym h) ∙ e)
    where
      go : (y : Option ℕ) → outcome (Err f) l ≡ by_later ls b y → answered (Faulty f.pass f.total) t l ≡ by_listed_pass ls t b y
      go (Some m) z = ap (with_table t) z
      go None z = let w : ◌≡◌ {A = ℕ} 4 0 = ap (λ (o : Outcome). o.reply.row) z in absurd (omega arith)

  -- none finds faults: what is answered for any fault buffer is the answer
  pub clean-later : (r : Reply) {t' : List ℕ} → x ≡ Ok tt → ((f : List ℕ) → answered r t' f ≡ by_size (inlined ls) t f) → answered r t' l ≡ by_listed ls t b
  unfolding later by_later by_listed by_listed_pass checked_numbered
  clean-later r {t'} h w = go (first (finds_later ls) 3 7) (ap (λ (y : Result (Unit {0}) checks.Faulty). outcome y l) (sym h) ∙ e)
    where
      go : (y : Option ℕ) → outcome (Ok tt) l ≡ by_later ls b y → answered r t' l ≡ by_listed_pass ls t b y
      go (Some m) z = let v : ◌≡◌ {A = ℕ} 0 4 = ap (λ (o : Outcome). o.reply.row) z in absurd (omega arith)
      go None z = w l ∙ ap (by_size (inlined ls) t) (ap (λ (o : Outcome). o.faults) z)

-- ---- the table that pass 2 lists

module _ (i : List Record) (b : List ℕ) {b' : List ℕ} {out out' : List Record} (clean : pass1 i ≡ []) where
  pub faulty-order : (t : List ℕ) {y : Tally} → DeclIdentifiersChecked i b out b' out' (Err y) → answered (Faulty 2 y.total) t b' ≡ by_passes i t b
  faulty-order t {y} h = told b (pass2 i) h.1 2 t ∙ sym (faulty-two i t b clean (some (pass2 i) h.0))
    where
      some : (fs : List Fault) → ¬ (fs ≡ []) → 0 < length fs
      some [] n = absurd (n refl)
      some (g ∷ gs) n = omega arith

  module _ {n : ℕ} (h : DeclIdentifiersChecked i b out b' out' (Ok n)) where
    pub listed-few : n ≤ length i
    listed-few = h.2.short

    -- what its type says of it
    pub listed-first : GroupsFirst (take n out')
    listed-first = rw h.2.records (groups-first i h.0 (unique-names i clean))

    pub listed_answer : (t : List ℕ) {x : Answer} → x ≡ by_listed (take n out') t b' → x ≡ by_passes i t b
    listed_answer t e =
        (rw (h.2.records, (no-fault b (pass2 i) h.1 (omega arith)).0) at e) ∙ sym (clean-two i t b clean h.0)
