-- The cycle of calls of `decl_visits::visit`, `decl_visits::take_up` and `decl_visits::walk` meets its contracts; the laws are in VisitReady. Assumes nothing.
use Rattle.std.proofs.Common.{sym, arith}
use Rattle.rules.specs.Table.{at}
use Rattle.decl_visits.proofs.VisitReady.{call-walk, call-own, call-list, ret-new, ret-open, ret-listed, ret-follow, ret-wrong, note-fits, walk-start, walk-decl, walk-past, walk-skip, walk-call, walk-turn}
use Rattle.decl_visits.proofs.+visit_walk.Goals as goal

pub take_up-returns-in-Follow : goal.take_up-returns-in-Follow
take_up-returns-in-Follow t c = ret-follow _ c.in-Follow.is c.visit.ensures

pub take_up-returns-in-Wrong : goal.take_up-returns-in-Wrong
take_up-returns-in-Wrong t c = ret-wrong _ c.in-Wrong.is c.note.ensures

pub take_up-note-requires : goal.take_up-note-requires
take_up-note-requires t c = note-fits _ c.requires.1

pub visit-note-requires : goal.visit-note-requires
visit-note-requires t c = note-fits _ c.requires.1

pub visit-walk-requires : goal.visit-walk-requires
visit-walk-requires t c = call-walk _ c.requires.0 c.requires.1 c.if-m-eq-UNVISITED.true c.decreases

pub visit-take_up-requires : goal.visit-take_up-requires
visit-take_up-requires t c =
    call-own _ c.requires.0 c.requires.1 c.if-m-eq-UNVISITED.true c.walk.ensures c.own_reference-r.ensures c.decreases

pub visit-list-requires : goal.visit-list-requires
visit-list-requires t c =
    call-list _ c.requires.0 c.requires.1 c.if-m-eq-UNVISITED.true c.walk.ensures c.own_reference-r.ensures c.take_up.ensures

pub visit-returns-then-m-eq-UNVISITED : goal.visit-returns-then-m-eq-UNVISITED
visit-returns-then-m-eq-UNVISITED t c =
    ret-new _ c.requires.0 c.requires.1 c.if-m-eq-UNVISITED.true c.walk.ensures c.own_reference-r.ensures c.take_up.ensures c.list.ensures

pub visit-returns-then-m-eq-VISITING : goal.visit-returns-then-m-eq-VISITING
visit-returns-then-m-eq-VISITING t c = ret-open _ c.requires.0 c.requires.1 c.if-m-eq-VISITING.true c.note.ensures

pub visit-returns-else-m-eq-VISITING : goal.visit-returns-else-m-eq-VISITING
visit-returns-else-m-eq-VISITING t c = ret-listed _ c.requires.0 c.requires.1 c.if-m-eq-UNVISITED.false c.if-m-eq-VISITING.false

pub walk-loop-q-init : goal.walk-loop-q-init
walk-loop-q-init t c = walk-start _ _ _ _ c.requires

pub walk-returns-then-is_decl : goal.walk-returns-then-is_decl
unfolding at
walk-returns-then-is_decl t c = walk-decl _ c.loop-q.invariant (sym c.if-is_decl.ensures)

pub walk-loop-q-preserved-then-not-may_refer : goal.walk-loop-q-preserved-then-not-may_refer
unfolding at
walk-loop-q-preserved-then-not-may_refer t c =
    walk-skip _ c.loop-q.invariant (omega arith) (sym c.if-is_decl.ensures) (sym c.if-not-may_refer.ensures)

pub walk-take_up-requires : goal.walk-take_up-requires
unfolding at
walk-take_up-requires t c =
    walk-call _ c.loop-q.invariant (omega arith) (sym c.if-is_decl.ensures) c.field_reference-r.ensures c.decreases

pub walk-loop-q-preserved : goal.walk-loop-q-preserved
unfolding at
walk-loop-q-preserved t c =
    walk-turn _ c.loop-q.invariant (omega arith) (sym c.if-is_decl.ensures) c.field_reference-r.ensures _ _ c.take_up.ensures

pub walk-returns : goal.walk-returns
walk-returns t c = walk-past _ c.loop-q.invariant (omega arith)
