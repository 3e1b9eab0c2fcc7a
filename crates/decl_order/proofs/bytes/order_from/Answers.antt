-- `decl_order::bytes::order_from` meets its contract. Assumes nothing.
use Prim.Native.Nat.{◌≤◌}
use lib.ListN.{length}
use Rattle.decl_visits.proofs.Loop.{marks-started}
use Rattle.decl_order.proofs.BytesChecks.{bytes-faulty, order-fits, call-bytes, ret-bytes}
use Rattle.decl_order.proofs.bytes.order_from.Goals as goal

pub visit_all-requires : goal.visit_all-requires
visit_all-requires c =
    let few : length c.args.names.now.table.now ≤ 1600 = rw c.requires.0 c.requires.1 in (few, rw c.new-a.ensures (marks-started _ few))

pub returns-then-tally-gt0 : goal.returns-then-tally-gt0
returns-then-tally-gt0 c = bytes-faulty _ c.requires.0 c.visit_all.ensures _ c.if-tally-gt0.true

pub order-requires : goal.order-requires
order-requires c = order-fits _ c.requires.0 c.visit_all.ensures c.if-tally-gt0.false c.requires.1

pub copy_listed-requires : goal.copy_listed-requires
copy_listed-requires c = (c.requires.0, call-bytes _ c.requires.0 c.visit_all.ensures c.if-tally-gt0.false c.requires.1 c.new-a.ensures c.order.ensures _ c.requires.2)

pub returns : goal.returns
returns c = ret-bytes _ c.requires.0 c.visit_all.ensures c.if-tally-gt0.false c.requires.1 c.new-a.ensures c.order.ensures c.copy_listed.ensures
