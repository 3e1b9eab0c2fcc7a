-- `group_sizes::measure` meets its contract: the sizes below d are right. Assumes nothing.
use Rattle.group_sizes.specs.Sizes.{Sized}
use Rattle.group_sizes.proofs.measure.Given as goal

abbrev pub invariant-loop-d : goal.invariant-loop-d
invariant-loop-d l = Sized l.listed.table.records.now l.targets l.sizes l.d
