-- `group_constraints::inlined_record` meets its contract. Assumes nothing.
use native.Mathlib.Omega.{arith}
use Rattle.std.proofs.lemmas.Grind.{common_steps}
use Rattle.rules.specs.InlineGroups.{under, inlined_record}
use Rattle.group_constraints.proofs.inlined_record.Goals as goal

pub returns-then-r-eq-SCALAR : goal.returns-then-r-eq-SCALAR
unfolding under inlined_record
returns-then-r-eq-SCALAR c = grind (arith, common_steps)

pub returns-then-r-eq-TYPEDEF : goal.returns-then-r-eq-TYPEDEF
unfolding under inlined_record
returns-then-r-eq-TYPEDEF c = grind (arith, common_steps)

pub returns-else-r-eq-TYPEDEF : goal.returns-else-r-eq-TYPEDEF
unfolding under inlined_record
returns-else-r-eq-TYPEDEF c = grind (arith, common_steps)
