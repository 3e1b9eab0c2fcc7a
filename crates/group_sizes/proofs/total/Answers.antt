-- `group_sizes::total` meets its contract: the sum of the sizes below d. Assumes nothing.
use Rattle.std.proofs.Common.{rules, arith}
use Rattle.std.proofs.lemmas.Grind.{common_steps}
use Rattle.rules.specs.Table.{at}
use Rattle.group_sizes.specs.Sizes.{total_size}
use Rattle.group_sizes.proofs.Measures.{total-next}
use Rattle.group_sizes.proofs.total.Goals as goal

pub loop-d-init : goal.loop-d-init
unfolding total_size
loop-d-init c = search rules

pub loop-d-preserved : goal.loop-d-preserved
unfolding at
loop-d-preserved c = grind (arith, common_steps, total-next)
