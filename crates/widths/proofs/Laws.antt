-- Laws of bit widths and maxima that the proofs of this crate cite. Assumes nothing.
use Prim.Native.Nat.{ℕ, zero, suc, ◌+◌, ◌-◌, ◌*◌, ◌/◌, ◌%◌, ◌^◌, ◌<◌, ◌≤◌}
use mathlib.Core.Path.{◌≡◌, refl}
use native.Mathlib.Omega.{arith}
use native.Mathlib.Nat.{mod-eq_of_lt, one-mul}
use borrow.Author.Tests.{lt-ltb, le-ltb}
use lib.Dec.{eqb-suc-zero}
use lib.Pow.{pow_pos, pow-lt}
use lib.Count.{count_leading_zeros, count_trailing_zeros, leading_le, trailing_le}
use Rattle.rules.specs.Widths.{digits, bit_width, scalar_max}

-- the leading zeros and the digits of a number make k
zeros-and-digits : (k n : ℕ) → count_leading_zeros k n + digits k n ≡ k
unfolding count_leading_zeros digits
zeros-and-digits zero n = refl
zeros-and-digits (suc k) zero = omega arith
zeros-and-digits (suc k) (suc n) = rw (digits, eqb-suc-zero n) (omega (arith, zeros-and-digits k (suc n / 2)))

-- of either end at most 64, so that a count from the wrong end fails at its result
pub zeros-below : (n : ℕ) → (count_leading_zeros 64 n ≤ 64) × (count_trailing_zeros 64 n ≤ 64)
zeros-below n = (leading_le 64 n, trailing_le 64 n)

pub width-of-zeros : (n : ℕ) → 64 - count_leading_zeros 64 n ≡ bit_width n
unfolding bit_width
width-of-zeros n = omega (arith, zeros-and-digits 64 n)

pub shifted : (w : ℕ) → w < 64 → ((1 * 2 ^ w) % 2 ^ 64 ≡ 2 ^ w) × (1 ≤ 2 ^ w)
shifted w h = (rw (one-mul (2 ^ w)) (mod-eq_of_lt (pow-lt h)), pow_pos w)

-- the greatest value of a width, below that of a machine number and from it on
module _ (w : ℕ) where
  pub shifted-pos : w < 64 → 1 ≤ (1 * 2 ^ w) % 2 ^ 64
  shifted-pos h = rw ((shifted w h).0) ((shifted w h).1)

  pub max-below : w < 64 → (1 * 2 ^ w) % 2 ^ 64 - 1 ≡ scalar_max w
  unfolding scalar_max
  max-below h = rw ((shifted w h).0, lt-ltb w 64 h)

  pub max-from : 64 ≤ w → 2 ^ 64 - 1 ≡ scalar_max w
  unfolding scalar_max
  max-from h = rw (le-ltb w 64 h)

pub ruleset zeros = (zeros-below, width-of-zeros)
