-- Each place adds what it becomes, and keeps its count.
use Prim.Native.Nat.{◌+◌}
use native.Mathlib.Omega.{arith}
use Rattle.std.proofs.lemmas.Grind.{common_steps}
use Rattle.flag_sizes.proofs.Laws.{size-more, size_few}
use Rattle.flag_sizes.proofs.total.Goals as goal

pub overflow_add-n : goal.overflow_add-n
overflow_add-n c =
    grind (arith, common_steps, size-more c.args.table.records.now c.loop-p.p, size_few c.args.table.records.now (c.loop-p.p + 1) c.args.table.few)

pub loop-p-preserved : goal.loop-p-preserved
loop-p-preserved c = (
  grind (arith, size-more c.args.table.records.now c.loop-p.p),
  grind (arith, common_steps),
  record { long = grind (arith, common_steps); known = λ q l. grind (arith, common_steps, c.loop-p.invariant.2.known q) },
)
