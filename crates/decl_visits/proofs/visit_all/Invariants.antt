-- `decl_visits::visit_all` meets its contract: the places below p are taken up, and the rest makes the whole. Assumes nothing.
use Rattle.decl_visits.proofs.Loop.{Turn}
use Rattle.decl_visits.proofs.visit_all.Given as goal

abbrev pub invariant-loop-p : goal.invariant-loop-p
invariant-loop-p l = Turn l.names.table.now l.fn.progress l.initial.buffer l.progress l.buffer l.p
