-- A condition leaves the stamp of its name, and no other record needs one.
use native.Mathlib.Omega.{arith}
use Rattle.std.proofs.lemmas.Grind.{common_steps}
use Rattle.flag_sizes.proofs.Laws.{entries_steps}
use Rattle.flag_sizes.proofs.condition_marks.mark_conditions.Goals as goal

pub loop-p-preserved : goal.loop-p-preserved
loop-p-preserved c =
    (grind (arith, common_steps), λ x o. grind (arith, common_steps, entries_steps, c.loop-p.invariant.1 x))
