-- `repeats::marks::mark_places` meets its contract: the marks and the stamps are those of the places below place. Assumes nothing.
use Rattle.repeats.specs.Marks.{Marked, Stamped}
use Rattle.repeats.proofs.marks.mark_places.Given as goal

abbrev pub invariant-loop-place : goal.invariant-loop-place
invariant-loop-place l = Marked l.table.records.now l.what l.marks × Stamped l.table.records.now l.what l.seen l.stamp l.place
