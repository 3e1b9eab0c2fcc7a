-- `group_constraints::push_constraints` meets its contract: the buffer, and the constraints still to come. Assumes nothing.
use native.Mathlib.Omega.{arith}
use Rattle.std.proofs.lemmas.Grind.{common_steps}
use Rattle.group_constraints.proofs.Laws.{constraints-next, constraints-end, push-one}
use Rattle.group_constraints.proofs.push_constraints.Goals as goal

pub bounds-env-m : goal.bounds-env-m
bounds-env-m c = grind (arith, common_steps, constraints-next c.args.table.records.now c.loop-p.p)

pub loop-p-preserved : goal.loop-p-preserved
loop-p-preserved c = grind (arith, common_steps, constraints-next c.args.table.records.now c.loop-p.p, push-one)

pub returns-then-k-ne-CONDITION : goal.returns-then-k-ne-CONDITION
returns-then-k-ne-CONDITION c = grind (arith, common_steps, constraints-next c.args.table.records.now c.loop-p.p)

pub returns : goal.returns
returns c = grind (arith, common_steps, constraints-end c.args.table.records.now c.loop-p.p)
