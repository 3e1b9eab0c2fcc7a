-- `size_fields::starts::fill` meets its contract: the searches from place on may start as said. Assumes nothing.
use Rattle.size_fields.specs.SizeStarts.{SizeStarts, KeptPlaces}
use Rattle.size_fields.proofs.starts.fill.Given as goal

abbrev pub invariant-loop-place : goal.invariant-loop-place
invariant-loop-place l = SizeStarts l.table.records.now l.starts × KeptPlaces l.table.records.now l.kept.last l.kept.end l.place
