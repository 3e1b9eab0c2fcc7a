-- `decl_order::order_from` meets its contract. Assumes nothing.
use Rattle.decl_visits.proofs.Loop.{marks-started}
use Rattle.decl_order.proofs.Checks.{ret-faulty, listed-short, call-copy, ret-copied}
use Rattle.decl_order.proofs.order_from.Goals as goal

pub visit_all-requires : goal.visit_all-requires
visit_all-requires c = (c.requires.0, rw c.new-a.ensures (marks-started _ c.requires.0))

pub returns-then-tally-gt0 : goal.returns-then-tally-gt0
returns-then-tally-gt0 c = ret-faulty _ c.visit_all.ensures _ c.if-tally-gt0.true

pub order-requires : goal.order-requires
order-requires c = listed-short _ c.visit_all.ensures c.if-tally-gt0.false c.requires.0

pub copy_listed-requires : goal.copy_listed-requires
copy_listed-requires c = call-copy _ c.visit_all.ensures c.if-tally-gt0.false c.requires.0 c.new-a.ensures c.order.ensures _ c.requires.1

pub returns : goal.returns
returns c = ret-copied _ c.visit_all.ensures c.if-tally-gt0.false c.requires.0 c.new-a.ensures c.order.ensures c.copy_listed.ensures
