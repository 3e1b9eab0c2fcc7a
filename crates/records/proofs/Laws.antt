-- The records of bytes. Assumes nothing.
use Prim.Native.Nat.{ℕ, zero, suc, ◌+◌, ◌*◌, ◌/◌, ◌<◌, ◌≤◌}
use mathlib.Core.Path.{◌≡◌, refl, ap, ◌∙◌}
use mathlib.Core.List.{List}
use native.Mathlib.Omega.{arith}
use native.Mathlib.Nat.{not-suc-le-zero, le_of_suc-le-suc, add_assoc}
use lib.ListN.{length, get_or, take, drop, length-take}
use lib.Seq.{get_or-drop}
use Rattle.rules.specs.Bytes.{number_at}
use Rattle.rules.specs.Table.{record_at, records, decode, at, blank}

number_at-drop : (w j : ℕ) (t : List ℕ) (i : ℕ) → number_at (drop j t) i w ≡ number_at t (j + i) w
unfolding number_at
number_at-drop zero j t i = refl
number_at-drop (suc w) j t i = rw (get_or-drop, number_at-drop w j t (i + 1), add_assoc j i 1)

record_at-drop : (j : ℕ) (t : List ℕ) (i : ℕ) → record_at (drop j t) i ≡ record_at t (j + i)
record_at-drop j t i = simp (record_at, get_or-drop, number_at-drop, add_assoc)

length-records : (n : ℕ) (t : List ℕ) → length (records n t) ≡ n
unfolding records
length-records zero t = refl
length-records (suc n) t = ap suc (length-records n (drop 40 t))

pub length-decode : (t : List ℕ) → length (decode t) ≡ length t / 40
unfolding decode
length-decode t = length-records (length t / 40) t

-- the bytes of a place
pub place-fits : (t : List ℕ) (p : ℕ) → p < length (decode t) → 40 * p + 40 ≤ length t
place-fits t p h = omega (arith, length-decode t)

-- the first k bytes of a buffer
pub part-few : (b : List ℕ) {k m : ℕ} → k ≤ m → k ≤ 64000 → length (decode (take k b)) ≤ 1600
part-few b {k} h g = omega (arith, length-decode (take k b), length-take k b)

at_records : (n : ℕ) (t : List ℕ) (p : ℕ) → p < n → get_or (records n t) p blank ≡ record_at t (40 * p)
unfolding records
at_records zero t p h = absurd (not-suc-le-zero h)
at_records (suc n) t zero h = refl
at_records (suc n) t (suc p) h = at_records n (drop 40 t) p (le_of_suc-le-suc h) ∙ record_at-drop 40 t (40 * p) ∙ ap (record_at t) (omega arith)

pub at-decode : (t : List ℕ) (p : ℕ) → p < length (decode t) → at (decode t) p ≡ record_at t (40 * p)
unfolding at decode
at-decode t p h = at_records (length t / 40) t p (omega (arith, length-records (length t / 40) t))
