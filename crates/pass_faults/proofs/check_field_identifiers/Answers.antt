-- `pass_faults::check_field_identifiers` meets its contract: marks that are all true say nothing yet. Assumes nothing.
use Rattle.std.proofs.Common.{rules}
use Rattle.repeats.proofs.marks.Laws.{marked-all}
use Rattle.pass_faults.proofs.check_field_identifiers.Goals as goal

pub mark-requires : goal.mark-requires
mark-requires c = (search rules, marked-all _ _ 1600)
