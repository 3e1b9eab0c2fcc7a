-- `group_table::expand` meets its contract. The laws are in Expands. Assumes nothing.
use Rattle.std.proofs.Common.{arith, refl}
use Rattle.group_table.proofs.Expands.{walk_start, walk_end, step_in, step_out, call-push, turn-empty, call-expand, turn-group, turn-lost, call-add, turn_one}
use Rattle.group_table.proofs.+expand.Goals as goal

pub loop-place-init : goal.loop-place-init
loop-place-init t c =
    let n = c.new-place-items.ensures in
    rw (c.into_iter-place-iterator.ensures.into_iter_gives, n.0, n.1) (refl, walk_start c.args.groups.now.measured c.requires)

pub push_constraints-requires : goal.push_constraints-requires
push_constraints-requires t c =
    let w = step_in c.in-Some.ensures.steps c.loop-place.invariant in
    let p = call-push c.args.groups.now.measured c.requires w.0 w.1 c.if-kind-eq-GROUP_FIELD.true in
    omega arith

pub expand-s-requires : goal.expand-s-requires
expand-s-requires t c =
    let w = step_in c.in-Some.ensures.steps c.loop-place.invariant in
    rw c.from-g.ensures (call-expand c.args.groups.now.measured c.requires w.0 w.1 c.if-kind-eq-GROUP_FIELD.true c.push_constraints.ensures c.decreases)

pub loop-place-preserved-then-groups-g-ne0 : goal.loop-place-preserved-then-groups-g-ne0
loop-place-preserved-then-groups-g-ne0 t c =
    let w = step_in c.in-Some.ensures.steps c.loop-place.invariant in
    step_out c.in-Some.ensures.steps c.loop-place.invariant.0
    (turn-group c.args.groups.now.measured c.requires w.0 w.1 c.if-kind-eq-GROUP_FIELD.true c.push_constraints.ensures (rw c.from-g.ensures at c.expand-s.ensures) (rw (c.truncate.ensures, c.len-top.ensures)) c.expand-s.auto.out)

pub loop-place-preserved-else-groups-g-ne0 : goal.loop-place-preserved-else-groups-g-ne0
loop-place-preserved-else-groups-g-ne0 t c =
    let w = step_in c.in-Some.ensures.steps c.loop-place.invariant in
    step_out c.in-Some.ensures.steps c.loop-place.invariant.0
    (turn-empty c.args.groups.now.measured c.requires w.0 w.1 c.if-kind-eq-GROUP_FIELD.true (rw c.from-g.ensures at c.if-groups-g-ne0.false))

pub add-s-requires : goal.add-s-requires
add-s-requires t c =
    let w = step_in c.in-Some.ensures.steps c.loop-place.invariant in
    call-add c.args.groups.now.measured c.requires w.0 w.1 c.if-kind-eq-GROUP_FIELD.false c.if-not-bound.true

pub loop-place-preserved-then-not-bound : goal.loop-place-preserved-then-not-bound
loop-place-preserved-then-not-bound t c =
    let w = step_in c.in-Some.ensures.steps c.loop-place.invariant in
    step_out c.in-Some.ensures.steps c.loop-place.invariant.0
    (turn_one c.args.groups.now.measured c.requires w.0 w.1 c.if-kind-eq-GROUP_FIELD.false c.if-not-bound.true (rw (c.inlined_record.ensures, c.as_slice.ensures, c.at-r.ensures) at c.add-s.ensures) c.add-s.auto.out)

pub loop-place-preserved : goal.loop-place-preserved
loop-place-preserved t c =
    let w = step_in c.in-Some.ensures.steps c.loop-place.invariant in
    step_out c.in-Some.ensures.steps c.loop-place.invariant.0
    (turn-lost c.args.groups.now.measured c.requires w.0 w.1 c.if-kind-eq-GROUP_FIELD.false c.if-not-bound.false)

pub returns : goal.returns
returns t c = let v = c.loop-place.invariant in walk_end c.args.groups.now.measured c.requires v.1 (rw v.0 at c.in-None.ensures.steps.0)
