-- `decl_order::copy_listed` meets its contract: the declarations at the places so far are copied. Assumes nothing.
use Rattle.std.proofs.Common.{arith}
use Rattle.decl_order.proofs.Copies.{copy_start, place_at, copy-fits, copy-turn, copy-end}
use Rattle.decl_order.proofs.copy_listed.Goals as goal

pub loop-place-init : goal.loop-place-init
loop-place-init c = copy_start _ _ _

pub member_count-m-requires : goal.member_count-m-requires
member_count-m-requires c = place_at _ _ _ c.requires c.from-d.ensures c.loop-place-test.true

pub slice_bounds-copy-end-in-loop-place : goal.slice_bounds-copy-end-in-loop-place
slice_bounds-copy-end-in-loop-place c =
    omega (arith, copy-fits _ _ _ c.requires c.loop-place.invariant c.loop-place-test.true c.from-d.ensures c.member_count-m.ensures.0)

pub loop-place-preserved : goal.loop-place-preserved
loop-place-preserved c =
    copy-turn _ _ _ c.requires c.loop-place.invariant c.loop-place-test.true c.from-d.ensures c.member_count-m.ensures.0 c.copy.ensures (omega arith) (omega arith)

pub returns : goal.returns
returns c = copy-end _ _ _ c.requires c.loop-place.invariant c.loop-place-test.false
