-- `size_fields::starts::Kept::set_starts` meets its contract: the starts that are known are right. Assumes nothing.
use Rattle.size_fields.specs.SizeStarts.{SizeStarts}
use Rattle.size_fields.proofs.starts.Kept.set_starts.Given as goal

abbrev pub invariant-loop-q : goal.invariant-loop-q
invariant-loop-q l = SizeStarts l.table.records.now l.starts
