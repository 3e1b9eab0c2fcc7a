-- Where nothing is found there is no fault. Assumes nothing.
use Rattle.std.proofs.Common.{ℕ}
use Prim.Native.Nat.{ℕ}
use native.Mathlib.Omega.{arith}
use Rattle.std.proofs.lemmas.Grind.{common_steps}
use mathlib.Core.Path.{◌≡◌}
use mathlib.Core.List.{List, []}
use mathlib.Core.Bool.{false}
use Rattle.rules.specs.Places.{found_inside}
use Rattle.rules.specs.Faults.{repeated}
use Rattle.rules.specs.EnumDeclarations.{again}
use Rattle.rules.specs.declared.Record.{Record}
use Rattle.repeats.specs.Marks.{target_of, has_earlier}
use Rattle.repeats.specs.declared.marks.Compared.{Compared}

pub not-again : (code : ℕ) (rs : List Record) (what : Compared) (n p : ℕ) → has_earlier rs what n p ≡ false → [] ≡ again code rs (target_of what n) p
unfolding again has_earlier repeated found_inside
not-again code rs what n p e = grind (arith, common_steps)
