-- Laws of appended bytes, digits and lines, and of how long they are. Assumes nothing.
use Prim.Native.Nat.{ℕ, zero, suc, ◌+◌, ◌*◌, ◌/◌, ◌%◌, ◌<◌, ◌≤◌, ◌^◌}
use mathlib.Core.Path.{◌≡◌, refl, sym, ◌∙◌, ap, subst}
use mathlib.Core.List.{List, [], ◌∷◌, ◌++◌, append_assoc, append-nil}
use mathlib.Core.Bool.{Bool, true, false}
use native.Mathlib.Nat.{div-lt_iff_lt-mul, pow-suc, add-zero}
use native.Mathlib.Numerals.{add-one}
use native.Mathlib.Omega.{arith}
use lib.Dec.{ltb}
use lib.ListN.{length, take, drop, get_or, set, length-append, length-take, take-append-drop}
use lib.Seq.{set_split, append_snoc, drop-cons}
use Rattle.std.proofs.lemmas.List.{drop_all}
use borrow.Author.Tests.{le-ltb, lt-ltb}
use Rattle.std.specs.Prelude.{if◌then◌else◌}
use Rattle.rules.specs.Bytes.{written}
use Rattle.rules.specs.Printed.{decimals, decimal, listing, line}
use Rattle.store.proofs.Laws.{length-written, written-more}
use Rattle.printed_text.specs.TextAppended.{put_text}

-- nothing, one byte, and one text after another
module _ (b : List ℕ) (i : ℕ) where
  pub put-nil : put_text b i [] ≡ b
  unfolding put_text
  put-nil = rw (append-nil (take i b), add-zero i) (take-append-drop i b)

  pub put-byte : (v : ℕ) → i < length b → set b i v ≡ put_text b i (v ∷ [])
  unfolding put_text
  put-byte v h = set_split b i v h ∙ sym (append_snoc (take i b) v (drop (suc i) b)) ∙ ap (λ (k : ℕ). take i b ++ (v ∷ []) ++ drop k b) (sym (add-one i))

  pub put-bytes : (s : List ℕ) → written b i s ≡ put_text b i s
  unfolding put_text
  put-bytes s = refl

  pub length-put : (s : List ℕ) → i + length s ≤ length b → length (put_text b i s) ≡ length b
  unfolding put_text
  length-put s h = length-written b i s h

  pub put_then : (s t : List ℕ) (j : ℕ) → j ≡ i + length s → i + length s ≤ length b → put_text (put_text b i s) j t ≡ put_text b i (s ++ t)
  unfolding put_text
  put_then s t j e h = rw (e, written-more b s t i h)

-- one digit of room more changes nothing
more : (k n : ℕ) → n < 10 ^ suc k → decimals (suc k) n ≡ decimals k n
unfolding decimals
more zero n h = simp (lt-ltb n 10 h)
more (suc k) n h =
    let g : n / 10 < 10 ^ suc k = (div-lt_iff_lt-mul {k = 10} {x = n} {y = 10 ^ suc k} (omega arith)).1 (subst (λ (m : ℕ). n < m) (pow-suc 10 (suc k)) h) in
    ap (λ (l : List ℕ). if ltb n 10 then (48 + n) ∷ [] else l ++ (48 + n % 10) ∷ []) (more k (n / 10) g)

either : (t : Bool) (a b : List ℕ) (m : ℕ) → length a ≤ m → length b ≤ m → length (if t then a else b) ≤ m
either true a b m h g = h
either false a b m h g = g

length-decimals : (k n : ℕ) → length (decimals k n) ≤ suc k
unfolding decimals
length-decimals zero n = omega arith
length-decimals (suc k) n =
    let g = length-decimals k (n / 10) in
    either (ltb n 10) ((48 + n) ∷ []) (decimals k (n / 10) ++ (48 + n % 10) ∷ []) (suc (suc k)) (omega arith) (omega (arith, length-append (decimals k (n / 10)) ((48 + n % 10) ∷ []), g))

pub length-decimal : (n : ℕ) → length (decimal n) ≤ 20
length-decimal n = length-decimals 19 n

-- the digits of a number of 64 bits: one digit, or those of its tenth and the last
pub one-digit : (n : ℕ) → n < 10 → decimal n ≡ (48 + n) ∷ []
unfolding decimals
one-digit n h = simp (lt-ltb n 10 h)

pub last-digit : (n : ℕ) → n < 2 ^ 64 → 10 ≤ n → decimal n ≡ decimal (n / 10) ++ (48 + n % 10) ∷ []
unfolding decimals
last-digit n h g = simp (le-ltb n 10 g) (ap (λ (l : List ℕ). l ++ (48 + n % 10) ∷ []) (sym (more 18 (n / 10) (omega arith))))

pub length-short : (n : ℕ) → n < 10 ^ 19 → length (decimal n) ≤ 19
length-short n h = subst (λ (l : List ℕ). length l ≤ 19) (sym (more 18 n h)) (length-decimals 18 n)

-- how long numbers behind blanks are
pub length-listing : (ns : List ℕ) → length (listing ns) ≤ 21 * length ns
unfolding listing
length-listing [] = omega arith
length-listing (n ∷ ns) = omega (arith, length-append (decimal n) (listing ns), length-decimal n, length-listing ns)

-- how long a line is
pub length-line : (w ns : List ℕ) → length (line w ns) ≤ length w + 21 * length ns + 1
length-line w ns = omega (arith, length-append (w ++ listing ns) (10 ∷ []), length-append w (listing ns), length-listing ns)

-- numbers from place k on: the first and the others
pub listing-drop : (ns : List ℕ) (k : ℕ) → k < length ns → listing (drop k ns) ≡ 32 ∷ decimal (get_or ns k 0) ++ listing (drop (k + 1) ns)
unfolding listing
listing-drop ns k h = rw (add-one, drop-cons ns k 0 h)

pub listing-end : (ns : List ℕ) (k : ℕ) → length ns ≤ k → listing (drop k ns) ≡ []
unfolding listing
listing-end ns k h = rw (drop_all k ns h)

pub ruleset puts = (put-nil, put-byte, put-bytes, length-put, put_then, length-append)

pub ruleset digits = (puts, one-digit, last-digit, length-short, length-decimal)

pub ruleset lines = (puts, append_assoc, length-decimal, length-listing, listing-drop, listing-end)
