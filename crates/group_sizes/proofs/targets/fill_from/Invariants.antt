-- `group_sizes::targets::fill_from` meets its contract: the group fields below p are resolved. Assumes nothing.
use Rattle.group_sizes.specs.Targets.{TargetsKnown}
use Rattle.group_sizes.proofs.targets.fill_from.Given as goal

abbrev pub invariant-loop-p : goal.invariant-loop-p
invariant-loop-p l = TargetsKnown l.names.table.now l.targets l.p
