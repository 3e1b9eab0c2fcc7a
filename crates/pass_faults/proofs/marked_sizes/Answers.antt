-- `pass_faults::marked_sizes` meets its contract: no start is known at first, and marks that are all true say nothing yet. Assumes nothing.
use Rattle.std.proofs.Common.{rules}
use Rattle.repeats.proofs.marks.Laws.{marked-all}
use Rattle.size_fields.proofs.starts.Laws.{starts-unknown}
use Rattle.pass_faults.proofs.marked_sizes.Goals as goal

pub fill-requires : goal.fill-requires
fill-requires c = (search rules, starts-unknown _ 1600)

pub mark-requires : goal.mark-requires
mark-requires c = (search rules, marked-all _ _ 1600)

pub mark-requires-2 : goal.mark-requires-2
mark-requires-2 c = (search rules, marked-all _ _ 1600)
