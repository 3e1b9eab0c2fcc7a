-- What the C interface gives back.
use Rattle.std.specs.Prelude.{ℕ, List}
use Rattle.rules.specs.Replies.{Answer}
use Rattle.pdl.specs.Numbers.{header_numbers}

-- all that a C caller finds afterwards: the three numbers and the bytes of both buffers
pub record Outputs : Type 0 where
  pub reply : List ℕ
  pub table : List ℕ
  pub faults : List ℕ

abbrev pub outputs : List ℕ → List ℕ → List ℕ → Outputs
outputs r t f = record { reply = r; table = t; faults = f }

abbrev pub header_answer : Answer → Outputs
header_answer a = outputs (header_numbers a.reply) a.table a.faults
