-- Laws of the fault buffer: fault by fault and in closed form. Assumes nothing.
use Prim.Native.Nat.{ℕ, ◌+◌, ◌*◌, ◌/◌, ◌<◌, ◌≤◌}
use lib.ListN.{length, take, drop, length-append, length-take, length-drop}
use lib.Seq.{take_all, take-append-le, take_at, drop-append-add, drop-drop}
use native.Mathlib.Omega.{arith}
use native.Mathlib.Decide.{dec_lt}
use Rattle.std.specs.Prelude.{if◌then◌else◌, None, Option, Some}
use Rattle.std.specs.Option.{option_to_list}
use Rattle.rules.specs.Bytes.{bytes}
use lib.Dec.{ltb}
use native.Mathlib.Nat.{not-suc-le-zero, le_antisymm, le_of_eq, zero-add, min-eq_left, min-eq_right}
use borrow.Author.Tests.{lt-ltb, le-ltb}
use mathlib.Core.Path.{◌≡◌, refl, sym, ap, subst, ◌∙◌}
use mathlib.Core.List.{List, [], ◌∷◌, ◌++◌, foldl, foldl-append, append_assoc, append-nil}
use mathlib.Core.Bool.{Bool, true, false}
use Rattle.rules.specs.Places.{each}
use Rattle.rules.specs.Bytes.{written}
use Rattle.rules.specs.Faults.{fault_bytes, faults_bytes, logged, Log, log}
use Rattle.store.proofs.Laws.{length-written}
use Rattle.faults.specs.Notes.{no_faults, noted, noted_all}
use Rattle.rules.specs.declared.Tally.{Tally}
use Rattle.rules.specs.declared.Fault.{Fault}
use Rattle.table.proofs.Laws.{each_more, each-few}

-- a pass begins, a turn of it notes the faults of one place more, and it ends
pub noted-start : (f : ℕ → List Fault) (l : Log) → l ≡ noted_all l (each f 0)
unfolding noted_all each
noted-start f l = refl

pub noted-place : (f : ℕ → List Fault) (p : ℕ) (l₀ : Log) {l m : Log} (xs : List Fault) → l ≡ noted_all l₀ (each f p) → xs ≡ f p → m ≡ noted_all l xs → m ≡ noted_all l₀ (each f (p + 1))
unfolding noted_all
noted-place f p l₀ xs e h g = g ∙ rw (h, e, each_more, foldl-append)

pub noted-end : (f : ℕ → List Fault) {p n m : ℕ} (l₀ : Log) {l : Log} → l ≡ noted_all l₀ (each f p) → p ≤ n → n ≤ p → n ≡ m → l ≡ noted_all l₀ (each f m)
noted-end f l₀ e h g k = e ∙ ap (λ (x : ℕ). noted_all l₀ (each f x)) (le_antisymm h g ∙ k)

module _ (t : Tally) (b : List ℕ) (f : Fault) where
  pub noted-kept : t.kept < length b / 20 → noted (log t b) f ≡ log (record { kept = t.kept + 1; total = t.total + 1 }) (written b (20 * t.kept) (fault_bytes f))
  unfolding noted
  noted-kept h = rw (lt-ltb _ _ h)

  pub noted-full : length b / 20 ≤ t.kept → noted (log t b) f ≡ log (record { kept = t.kept; total = t.total + 1 }) b
  unfolding noted
  noted-full h = rw (le-ltb _ _ h)

-- nothing found, and one fault found
pub noted-none : (l : Log) → l ≡ noted_all l []
unfolding noted_all
noted-none l = refl

pub noted_one : (l : Log) (f : Fault) → noted l f ≡ noted_all l (f ∷ [])
unfolding noted_all
noted_one l f = refl

total_of : (b : Bool) (x y : Log) (n : ℕ) → x.tally.total ≡ n → y.tally.total ≡ n → (if b then x else y).tally.total ≡ n
total_of true x y n h g = h
total_of false x y n h g = g

-- a place adds at most one to the total
pub noted-total : (l : Log) (x : Option Fault) → (noted_all l (option_to_list x)).tally.total ≤ l.tally.total + 1
unfolding noted_all noted
noted-total l (Some f) = le_of_eq (total_of (ltb l.tally.kept (length l.buffer / 20)) _ _ (l.tally.total + 1) refl refl)
noted-total l None = omega arith

length-fault : (f : Fault) → length (fault_bytes f) ≡ 20
unfolding fault_bytes bytes
length-fault f = refl

length-faults : (fs : List Fault) → length (faults_bytes fs) ≡ 20 * length fs
unfolding faults_bytes
length-faults [] = refl
length-faults (f ∷ fs) = length-append (fault_bytes f) (faults_bytes fs) ∙ omega (arith, length-fault f, length-faults fs)

faults-snoc : (fs : List Fault) (f : Fault) → faults_bytes (fs ++ f ∷ []) ≡ faults_bytes fs ++ fault_bytes f
unfolding faults_bytes
faults-snoc [] f = append-nil (fault_bytes f)
faults-snoc (g ∷ fs) f = ap (λ (x : List ℕ). fault_bytes g ++ x) (faults-snoc fs f) ∙ sym (append_assoc (fault_bytes g) (faults_bytes fs) (fault_bytes f))

-- a buffer that is filled up to n, and then further
written_next : (d b s : List ℕ) (n : ℕ) → length d ≡ n → written (d ++ drop n b) n s ≡ d ++ s ++ drop (n + length s) b
written_next d b s n e =
    let past : drop (n + length s) (d ++ drop n b) ≡ drop (n + length s) b
    = subst (λ (k : ℕ). drop (k + length s) (d ++ drop n b) ≡ drop (length s) (drop n b)) e (drop-append-add d (drop n b) (length s)) ∙ drop-drop (length s) n b in
    rw (take_at d (drop n b) n e, past)

module _ (b : List ℕ) (fs : List Fault) where
  -- where all of them fit
  logged-few : length fs ≤ length b / 20 → logged b fs ≡ log (record { kept = length fs; total = length fs }) (faults_bytes fs ++ drop (20 * length fs) b)
  unfolding logged
  logged-few h = rw (take_all (length b / 20) fs h, length-faults fs, zero-add (20 * length fs), min-eq_left h)

  -- where they fill the buffer
  logged-many : length b / 20 ≤ length fs → logged b fs ≡ log (record { kept = length b / 20; total = length fs }) (written b 0 (faults_bytes (take (length b / 20) fs)))
  unfolding logged
  logged-many h = rw (min-eq_right h)

logged-more : (b : List ℕ) (fs : List Fault) (f : Fault) → noted (logged b fs) f ≡ logged b (fs ++ f ∷ [])
logged-more b fs f = go (dec_lt (length fs) (length b / 20))
  where
    long : length (fs ++ f ∷ []) ≡ length fs + 1
    long = length-append fs (f ∷ [])

    go : Dec (length fs < length b / 20) → noted (logged b fs) f ≡ logged b (fs ++ f ∷ [])
    go (yes h) =
        let few : length fs ≤ length b / 20 = omega arith in
        let more : length (fs ++ f ∷ []) ≤ length b / 20 = omega (arith, long) in
        let l : length (faults_bytes fs ++ drop (20 * length fs) b) ≡ length b = length-append (faults_bytes fs) _ ∙ omega (arith, length-faults fs, length-drop (20 * length fs) b) in
        let next : 20 * length fs + length (fault_bytes f) ≡ 20 * (length fs + 1) = omega (arith, length-fault f) in
        rw (logged-few b fs few, logged-few b (fs ++ f ∷ []) more, long, faults-snoc fs f)
        (noted-kept _ _ f (omega arith)
        ∙ ap (log _) (written_next (faults_bytes fs) b (fault_bytes f) (20 * length fs) (length-faults fs) ∙ ap (λ (k : ℕ). faults_bytes fs ++ fault_bytes f ++ drop k b) next))
    go (no h) =
        let many : length b / 20 ≤ length fs = omega arith in
        let more : length b / 20 ≤ length (fs ++ f ∷ []) = omega (arith, long) in
        let l : length (written b 0 (faults_bytes (take (length b / 20) fs))) ≡ length b = length-written b 0 (faults_bytes (take (length b / 20) fs)) (omega (arith, length-faults (take (length b / 20) fs), length-take (length b / 20) fs)) in
        rw (logged-many b fs many, logged-many b (fs ++ f ∷ []) more, long, take-append-le (length b / 20) fs (f ∷ []) many)
        (noted-full _ _ f (omega arith))

logged-from : (b : List ℕ) (xs ys : List Fault) → noted_all (logged b xs) ys ≡ logged b (xs ++ ys)
unfolding noted_all
logged-from b xs [] = ap (logged b) (sym (append-nil xs))
logged-from b xs (y ∷ ys) = ap (λ (l : Log). foldl noted l ys) (logged-more b xs y) ∙ logged-from b (xs ++ y ∷ []) ys ∙ ap (logged b) (append_assoc xs (y ∷ []) ys)

-- fault by fault, and all at once
pub noted-logged : (b : List ℕ) (fs : List Fault) → noted_all (log no_faults b) fs ≡ logged b fs
unfolding logged faults_bytes
noted-logged b fs = ap (λ (l : Log). noted_all l fs) (sym (logged-few b [] (omega arith))) ∙ logged-from b [] fs

-- nothing found leaves the buffer
pub logged_none : (b : List ℕ) (fs : List Fault) → length fs ≤ 0 → logged b fs ≡ log no_faults b
unfolding faults_bytes
logged_none b [] h = logged-few b [] (omega arith)
logged_none b (f ∷ fs) h = absurd (not-suc-le-zero h)

-- faults after faults
pub noted-then : (l : Log) {m k : Log} (xs ys : List Fault) → m ≡ noted_all l xs → k ≡ noted_all m ys → k ≡ noted_all l (xs ++ ys)
unfolding noted_all
noted-then l xs ys e g = g ∙ rw (e, foldl-append)

noted-adds : (l : Log) (f : Fault) → (noted l f).tally.total ≡ l.tally.total + 1
unfolding noted
noted-adds l f = total_of (ltb l.tally.kept (length l.buffer / 20)) _ _ (l.tally.total + 1) refl refl

-- the total grows by the number of faults
pub noted-count : (l : Log) (fs : List Fault) → (noted_all l fs).tally.total ≡ l.tally.total + length fs
unfolding noted_all
noted-count l [] = omega arith
noted-count l (f ∷ fs) = noted-count (noted l f) fs ∙ omega (arith, noted-adds l f)

pub total-after : (t : Tally) (b : List ℕ) {r : Tally} {c : List ℕ} (fs : List Fault) → log r c ≡ noted_all (log t b) fs → r.total ≡ t.total + length fs
total-after t b fs e = ap (λ (l : Log). l.tally.total) e ∙ noted-count _ fs

pub findings-few : (x : Option Fault) → length (option_to_list x) ≤ 1
findings-few (Some f) = omega arith
findings-few None = omega arith

-- at most k faults at each place
pub each-total : (f : ℕ → List Fault) (k i : ℕ) (t : Tally) (b : List ℕ) {r : Tally} {c : List ℕ} → ((j : ℕ) → length (f j) ≤ k) → log r c ≡ noted_all (log t b) (each f i) → r.total ≤ t.total + k * i
each-total f k i t b h e = omega (arith, total-after t b (each f i) e, each-few f k i h)
