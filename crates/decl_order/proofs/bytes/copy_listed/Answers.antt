-- `decl_order::bytes::copy_listed` meets its contract: the bytes of the declarations at the places so far are copied. Assumes nothing.
use Rattle.std.proofs.Common.{arith}
use mathlib.Core.Path.{refl}
use Rattle.decl_order.proofs.BytesCopies.{bytes_start, bytes_place, bytes-fit, bytes-in, bytes-turn, bytes-end}
use Rattle.decl_order.proofs.bytes.copy_listed.Goals as goal

pub loop-place-init : goal.loop-place-init
loop-place-init c = bytes_start _ _ _

pub member_count-m-requires : goal.member_count-m-requires
member_count-m-requires c = rw c.requires.0 (bytes_place _ _ _ c.requires.1 c.from-d.ensures c.loop-place-test.true)

pub slice_bounds-bytes-end : goal.slice_bounds-bytes-end
slice_bounds-bytes-end c =
    omega (arith, bytes-in _ _ _ c.requires.1 c.loop-place.invariant c.loop-place-test.true c.from-d.ensures (rw c.requires.0 at c.member_count-m.ensures.0))

pub overflow_mul-count : goal.overflow_mul-count
overflow_mul-count c =
    omega (arith, bytes-fit _ _ _ c.requires.1 c.loop-place.invariant c.loop-place-test.true c.from-d.ensures (rw c.requires.0 at c.member_count-m.ensures.0))

pub overflow_add-count : goal.overflow_add-count
overflow_add-count c =
    omega (arith, bytes-fit _ _ _ c.requires.1 c.loop-place.invariant c.loop-place-test.true c.from-d.ensures (rw c.requires.0 at c.member_count-m.ensures.0))

pub overflow_mul-count-in-loop-place : goal.overflow_mul-count-in-loop-place
overflow_mul-count-in-loop-place c =
    omega (arith, bytes-fit _ _ _ c.requires.1 c.loop-place.invariant c.loop-place-test.true c.from-d.ensures (rw c.requires.0 at c.member_count-m.ensures.0))

pub slice_bounds-copy_from_slice-end : goal.slice_bounds-copy_from_slice-end
slice_bounds-copy_from_slice-end c =
    omega (arith, bytes-fit _ _ _ c.requires.1 c.loop-place.invariant c.loop-place-test.true c.from-d.ensures (rw c.requires.0 at c.member_count-m.ensures.0))

pub loop-place-preserved : goal.loop-place-preserved
loop-place-preserved c =
    bytes-turn _ _ _ c.requires.1 c.loop-place.invariant c.loop-place-test.true c.from-d.ensures (rw c.requires.0 at c.member_count-m.ensures.0)
    c.copy_from_slice.ensures.after refl

pub returns : goal.returns
returns c = bytes-end _ _ _ c.requires.1 c.loop-place.invariant c.loop-place-test.false
