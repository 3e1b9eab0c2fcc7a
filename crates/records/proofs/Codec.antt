-- A record that fits is read back as it was written, and the records of a table of bytes fit. Assumes nothing.
use Prim.Native.Nat.{ℕ, ◌+◌, ◌*◌, ◌/◌, ◌%◌, ◌^◌, ◌<◌, ◌≤◌}
use mathlib.Core.Path.{◌≡◌, refl, ap, ◌∙◌}
use mathlib.Core.List.{List, [], ◌∷◌, ◌++◌}
use native.Mathlib.Omega.{arith}
use native.Mathlib.Decide.{dec_lt}
use lib.ListN.{length, get_or, length-append, get_or-eq_default}
use Rattle.rules.specs.Bytes.{number_at, bytes}
use Rattle.rules.specs.Table.{at, blank, record_at, records, decode, record_bytes, encode}
use Rattle.rules.specs.declared.Record.{Record}
use Rattle.records.proofs.Laws.{at-decode}

-- each field is a value of its type
pub record Fits (r : Record) : Type 0 where
  pub kind : r.kind < 256
  pub marks : r.marks < 256
  pub name : r.name < 65536
  pub second : r.second < 65536
  pub third : r.third < 65536
  pub one : r.one < 2 ^ 64
  pub two : r.two < 2 ^ 64
  pub key : r.key < 65536
  pub start : r.start < 2 ^ 32
  pub end : r.end < 2 ^ 32

pub data AllFit : List Record → Type 0 where
  none : AllFit []
  more : {r : Record} {rs : List Record} → Fits r → AllFit rs → AllFit (r ∷ rs)

-- ---- what is written is read back

two_bytes : (n : ℕ) → n < 65536 → n % 256 + 256 * (n / 256 % 256 + 256 * 0) ≡ n
two_bytes n h = omega arith

four_bytes : (n : ℕ) → n < 2 ^ 32 → n % 256 + 256 * (n / 256 % 256 + 256 * (n / 256 / 256 % 256 + 256 * (n / 256 / 256 / 256 % 256 + 256 * 0))) ≡ n
four_bytes n h = omega arith

eight-bytes : (n : ℕ) → n < 2 ^ 64
    → n % 256 + 256 * (n / 256 % 256 + 256 * (n / 256 / 256 % 256 + 256 * (n / 256 / 256 / 256 % 256 + 256 * (n / 256 / 256 / 256 / 256 % 256 + 256 * (n / 256 / 256 / 256 / 256 / 256 % 256 + 256 * (n / 256 / 256 / 256 / 256 / 256 / 256 % 256 + 256 * (n / 256 / 256 / 256 / 256 / 256 / 256 / 256 % 256 + 256 * 0))))))) ≡ n
eight-bytes n h = omega arith

read_back : (r : Record) (rest : List ℕ) → Fits r → record_at (record_bytes r ++ rest) 0 ≡ r
unfolding number_at bytes record_bytes
read_back r rest f =
    λ i. record {
      kind = r.kind;
      marks = r.marks;
      name = two_bytes r.name f.name i;
      second = two_bytes r.second f.second i;
      third = two_bytes r.third f.third i;
      one = eight-bytes r.one f.one i;
      two = eight-bytes r.two f.two i;
      key = two_bytes r.key f.key i;
      start = four_bytes r.start f.start i;
      end = four_bytes r.end f.end i;
    }

records-encode : (rs : List Record) → AllFit rs → records (length rs) (encode rs) ≡ rs
unfolding records encode record_bytes bytes
records-encode [] none = refl
records-encode (r ∷ rs) (more f h) = λ i. read_back r (encode rs) f i ∷ records-encode rs h i

length-record : (r : Record) → length (record_bytes r) ≡ 40
unfolding record_bytes bytes
length-record r = refl

length-encode : (rs : List Record) → length (encode rs) ≡ 40 * length rs
unfolding encode
length-encode [] = refl
length-encode (r ∷ rs) = length-append (record_bytes r) (encode rs) ∙ omega (arith, length-record r, length-encode rs)

pub decode-encode : (rs : List Record) → AllFit rs → decode (encode rs) ≡ rs
unfolding decode
decode-encode rs h =
    let n : length (encode rs) / 40 ≡ length rs = omega (arith, length-encode rs) in
    ap (λ (k : ℕ). records k (encode rs)) n ∙ records-encode rs h

-- ---- the records of a table are values of their types

module _ (t : List ℕ) (small : (i : ℕ) → get_or t i 0 < 256) where
  two_of : (i : ℕ) → number_at t i 2 < 65536
  unfolding number_at
  two_of i = omega (arith, small i, small (i + 1))

  four_of : (i : ℕ) → number_at t i 4 < 2 ^ 32
  unfolding number_at
  four_of i = omega (arith, small i, small (i + 1), small (i + 1 + 1), small (i + 1 + 1 + 1))

  eight_of : (i : ℕ) → number_at t i 8 < 2 ^ 64
  unfolding number_at
  eight_of i =
      omega (arith, small i, small (i + 1), small (i + 1 + 1), small (i + 1 + 1 + 1), small (i + 1 + 1 + 1 + 1), small (i + 1 + 1 + 1 + 1 + 1), small (i + 1 + 1 + 1 + 1 + 1 + 1), small (i + 1 + 1 + 1 + 1 + 1 + 1 + 1))

  record-fits : (i : ℕ) → Fits (record_at t i)
  record-fits i =
      record {
        kind = small i;
        marks = small (i + 1);
        name = two_of (i + 2);
        second = two_of (i + 4);
        third = two_of (i + 6);
        one = eight_of (i + 8);
        two = eight_of (i + 16);
        key = two_of (i + 24);
        start = four_of (i + 28);
        end = four_of (i + 32);
      }

  blank-fits : Fits blank
  blank-fits =
      record { kind = omega arith; marks = omega arith; name = omega arith; second = omega arith; third = omega arith; one = omega arith; two = omega arith; key = omega arith; start = omega arith; end = omega arith }

  pub at-fits : (p : ℕ) → Fits (at (decode t) p)
  unfolding at
  at-fits p = go (dec_lt p (length (decode t)))
    where
      go : Dec (p < length (decode t)) → Fits (at (decode t) p)
      go (yes h) = rw (at-decode t p h) (record-fits (40 * p))
      go (no h) = let l : length (decode t) ≤ p = omega arith in rw (get_or-eq_default (decode t) blank l) blank-fits
