-- The measure of the cycle of `decl_visits::visit`, `decl_visits::take_up` and `decl_visits::walk`: three for each unvisited place, and which of the three it is.
use Rattle.std.proofs.Common.{◌+◌, ◌*◌}
use Rattle.decl_visits.specs.Contract.{unvisited_in}
use Rattle.decl_visits.proofs.VisitReady.{Walking}
use Rattle.decl_visits.proofs.+visit_walk.Given as goal

abbrev pub decreases-visit : goal.decreases-visit
decreases-visit l = unvisited_in l.names.now.table.now l.progress.now * 3

abbrev pub decreases-take_up : goal.decreases-take_up
decreases-take_up l = unvisited_in l.names.now.table.now l.progress.now * 3 + 1

abbrev pub decreases-walk : goal.decreases-walk
decreases-walk l = unvisited_in l.names.now.table.now l.progress.now * 3 + 2

abbrev pub invariant-walk-loop-q : goal.invariant-walk-loop-q
invariant-walk-loop-q l = Walking l.names.table.now l.place l.initial.progress l.initial.buffer l.progress l.buffer l.q
