-- `group_sizes::size_after` meets its contract: what is counted and what is left make the whole. Assumes nothing.
use Rattle.std.proofs.Common.{arith}
use Rattle.std.proofs.lemmas.Grind.{common_steps}
use Rattle.group_sizes.specs.Sizes.{size_at}
use Rattle.group_sizes.proofs.Known.{target-in}
use Rattle.group_sizes.proofs.Fields.{size-next, size-end}
use Rattle.group_sizes.proofs.size_after.Goals as goal

pub size_here-s-requires : goal.size_here-s-requires
size_here-s-requires c =
    let m = rw c.loop-member.invariant.0 at c.in-Some.ensures.steps.0 in
    (omega (arith, m.below, c.requires.0.long), target-in c.args.sizes.now c.requires.0 c.requires.1 m)

pub loop-member-preserved : goal.loop-member-preserved
unfolding size_at
loop-member-preserved c =
    let m = rw c.loop-member.invariant.0 at c.in-Some.ensures.steps.0 in
    grind (arith, common_steps, size-next c.args.table.records.now c.in-Some.member.place m.below c.args.targets.now c.args.sizes.now)

pub returns : goal.returns
returns c =
    let e = rw c.loop-member.invariant.0 at c.in-None.ensures.steps.0 in
    let z = size-end c.args.table.records.now c.loop-member.member-iterator.place e c.args.targets.now c.args.sizes.now in
    grind (arith, common_steps)
