-- Bytes that stand for an input: made chunk by chunk, and answered as it would be. Assumes nothing.
use Prim.Native.Nat.{ℕ, ◌+◌, ◌-◌, ◌%◌, ◌<◌, ◌≤◌}
use mathlib.Core.Path.{◌≡◌, refl, sym, ap, ◌∙◌}
use mathlib.Core.List.{List, ◌++◌}
use mathlib.Core.Bool.{Bool, true, false, not}
use borrow.Author.Tests.{ne_eqb, lt-ltb, le-leb, lt-leb}
use native.Mathlib.Omega.{arith}
use native.Mathlib.Decide.{dec_le, ℕ_discrete}
use lib.ListN.{length, take, drop, length-append}
use lib.Seq.{length-take-le, take-length, take_at}
use lib.Dec.{eqb}
use Rattle.std.specs.Prelude.{if◌then◌else◌}
use Rattle.rules.specs.Bytes.{written}
use Rattle.rules.specs.Table.{decode}
use Rattle.rules.specs.Layouts.{layout, unsound_at, if_found}
use Rattle.rules.specs.Places.{first}
use Rattle.rules.specs.Replies.{Answer, answered, by_layout, answer}
use Rattle.rules.specs.Printed.{printed, program}
use Rattle.rules.specs.declared.LayoutError.TheVariants as layouts
use Rattle.std.proofs.Common.{Err}
use Rattle.rules.specs.declared.Reply.TheVariants.{Uneven, TooLong}
use Rattle.store.proofs.Laws.{length-written}
use Rattle.records.proofs.Laws.{length-decode}
use Rattle.program.specs.Inputs.{short_length, StandsFor}

pub short-same : (n : ℕ) → n ≤ 64040 → short_length n ≡ n
short-same n h = rw (le-leb n 64040 h)

pub short-long : (n : ℕ) → 64040 < n → short_length n ≡ 64001 + (n - 64001) % 40
short-long n h = rw (lt-leb n 64040 h)

pub short-few : (n : ℕ) → short_length n ≤ 64040
short-few n = go (dec_le n 64040)
  where
    go : Dec (n ≤ 64040) → short_length n ≤ 64040
    go (yes y) = omega (arith, short-same n y)
    go (no y) = omega (arith, short-long n (omega arith))

-- short lengths may be taken in between
short-more : (a n : ℕ) → short_length (short_length a + n) ≡ short_length (a + n)
short-more a n = go (dec_le a 64040) (dec_le (short_length a + n) 64040)
  where
    go : Dec (a ≤ 64040) → Dec (short_length a + n ≤ 64040) → short_length (short_length a + n) ≡ short_length (a + n)
    go (yes y) z = ap (λ (k : ℕ). short_length (k + n)) (short-same a y)
    go (no y) (yes z) =
        omega (arith, short-long a (omega arith), short-same (short_length a + n) z, short-long (a + n) (omega arith))
    go (no y) (no z) =
        omega (arith, short-long a (omega arith), short-long (short_length a + n) (omega arith), short-long (a + n) (omega arith))

take-written : (d : List ℕ) (i : ℕ) (s : List ℕ) → i ≤ length d → take (i + length s) (written d i s) ≡ take i d ++ s
take-written d i s h =
    take_at (take i d ++ s) (drop (i + length s) d) (i + length s) (omega (arith, length-append (take i d) s, length-take-le i d h))

-- the next bytes s, of which the first m were written behind the first k
module _ (b : List ℕ) (long : 64040 ≤ length b) (k : ℕ) (few : k ≤ 64040) (s : List ℕ) (m : ℕ) (le : m ≤ length s) (room : k + m ≤ 64040) (all : k + length s ≤ 64040 → m ≡ length s) {b' : List ℕ} (w : b' ≡ written b k (take m s)) where
  long_after : length b' ≡ length b
  long_after = ap length w ∙ length-written b k (take m s) (omega (arith, length-take-le m s le))

  module _ (i : List ℕ) (h : StandsFor i (take k b)) where
    k-is : k ≡ short_length (length i)
    k-is = sym (length-take-le k b (omega arith)) ∙ h.long

    whole : length (i ++ s) ≤ 64040 → take (short_length (k + length s)) b' ≡ i ++ s
    whole l =
        let e = length-append i s in
        let n : k ≡ length i = k-is ∙ short-same (length i) (omega arith) in
        let z : m ≡ length s = all (omega arith) in
        let y : take m s ≡ s = ap (λ (j : ℕ). take j s) z ∙ take-length s in
        let x : short_length (k + length s) ≡ k + length s = short-same (k + length s) (omega arith) in
        ap (λ (j : ℕ). take j b') x
        ∙ ap (take (k + length s)) (w ∙ ap (written b k) y)
        ∙ take-written b k s (omega arith)
        ∙ ap (λ (l : List ℕ). l ++ s) (h.same (omega arith))

    pub stands-more : StandsFor (i ++ s) (take (short_length (k + length s)) b')
    stands-more = record {
      same = whole;
      long = length-take-le (short_length (k + length s)) b' (omega (arith, short-few (k + length s), long_after))
          ∙ ap (λ (j : ℕ). short_length (j + length s)) k-is
          ∙ short-more (length i) (length s)
          ∙ ap short_length (sym (length-append i s));
    }

-- ---- the answer

-- above 64,000 bytes the remainder decides, and no byte is read
by_remainder : ℕ → List ℕ → List ℕ → Answer
by_remainder r t f = if not (eqb r 0) then answered Uneven t f else answered TooLong t f

long-answer : (i t f : List ℕ) → 64000 < length i → answer i t f ≡ by_remainder (length i % 40) t f
unfolding answer by_layout layout by_remainder
long-answer i t f h = go (ℕ_discrete (length i % 40) 0)
  where
    row : (a : Bool) {b : Bool} → b ≡ true → by_layout i t f (if a then Err layouts.Uneven else if b then Err layouts.TooLong else if_found (first (unsound_at i) 0 (length (decode i)))) ≡ (if a then answered Uneven t f else answered TooLong t f)
    row true e = refl
    row false e = rw e

    go : Dec (length i % 40 ≡ 0) → by_layout i t f (layout i) ≡ by_remainder (length i % 40) t f
    go (yes z) = row (not (eqb (length i % 40) 0)) (lt-ltb 1600 (length (decode i)) (omega (arith, length-decode i)))
    go (no z) = rw (ne_eqb (length i % 40) 0 z)

pub stands-answer : {i j : List ℕ} → StandsFor i j → (t f : List ℕ) → answer j t f ≡ answer i t f
stands-answer {i} {j} s t f = go (dec_le (length i) 64040)
  where
    go : Dec (length i ≤ 64040) → answer j t f ≡ answer i t f
    go (yes y) = ap (λ (x : List ℕ). answer x t f) (s.same y)
    go (no y) =
        let e : length j ≡ 64001 + (length i - 64001) % 40 = s.long ∙ short-long (length i) (omega arith) in
        let r : length j % 40 ≡ length i % 40 = omega arith in
        long-answer j t f (omega arith) ∙ ap (λ (k : ℕ). by_remainder k t f) r ∙ sym (long-answer i t f (omega arith))

-- what is printed for the bytes read is what is to be printed for the whole input
pub stands-program : {i j : List ℕ} → StandsFor i j → program j ≡ program i
unfolding program
stands-program s = ap printed (stands-answer s _ _)
