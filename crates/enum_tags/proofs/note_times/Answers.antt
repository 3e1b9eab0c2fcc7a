-- `enum_tags::note_times` meets its contract: after some turns the fault is noted as often. Assumes nothing.
use native.Mathlib.Omega.{arith}
use mathlib.Core.Path.{refl}
use Rattle.faults.proofs.Laws.{noted-start, noted-place, each-total}
use Rattle.enum_tags.proofs.note_times.Goals as goal

pub loop-init : goal.loop-init
loop-init c = noted-start _ _

pub note_found-kept-requires : goal.note_found-kept-requires
note_found-kept-requires c =
    omega (arith, each-total _ 1 c.loop.counter _ _ (λ i. omega arith) c.loop.invariant)

pub loop-preserved : goal.loop-preserved
loop-preserved c =
    noted-place _ c.loop.counter _ _ c.loop.invariant refl c.note_found-kept.ensures
