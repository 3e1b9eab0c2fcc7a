-- `decl_order::copy` meets its contract: the records below the place are copied. Assumes nothing.
use native.Mathlib.Omega.{arith}
use Rattle.decl_order.proofs.Copies.{copied-more}
use Rattle.decl_order.proofs.copy.Goals as goal

pub loop-place-preserved : goal.loop-place-preserved
loop-place-preserved c = rw c.loop-place.invariant (copied-more c.args.records.now c.args.out.now c.loop-place.place _ c.loop-place-test.true (omega (arith, c.requires)))
