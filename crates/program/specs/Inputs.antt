-- Bytes that stand for an input: the input itself, or, if it is long, others that get the same reply.
use Rattle.std.specs.Prelude.{◌≡◌, List, ℕ, ◌+◌, ◌-◌, ◌%◌, ◌≤◌, leb, length, if◌then◌else◌}

-- a length with the same remainder, and above 64,000 like it
abbrev pub short_length : ℕ → ℕ
short_length n = if leb n 64040 then n else 64001 + (n - 64001) % 40

-- j stands for the input i: the same up to 64,040 bytes, else shorter with the same remainder
pub record StandsFor (i j : List ℕ) : Type 0 where
  pub same : length i ≤ 64040 → j ≡ i
  pub long : length j ≡ short_length (length i)
