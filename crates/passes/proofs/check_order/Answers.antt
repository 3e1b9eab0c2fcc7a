-- `passes::check_order` meets its contract: pass 2 finds faults, or lists the table that the rest reads. Assumes nothing.
use Rattle.passes.proofs.Laws.{faulty-order, listed-first, listed_answer}
use Rattle.passes.proofs.check_order.Goals as goal

pub returns-in-Err : goal.returns-in-Err
returns-in-Err c = faulty-order _ _ c.requires.1 c.args.table.now c.in-Err.ensures

-- the result before what it requires: a program that lists too little is refused here, and not only at what an empty table meets too
pub returns-in-Ok : goal.returns-in-Ok
returns-in-Ok c = listed_answer _ _ c.requires.1 c.in-Ok.ensures c.args.table.now c.check_listed.ensures

pub invariant_of-listed-in-Ok : goal.invariant_of-listed-in-Ok
invariant_of-listed-in-Ok c = record { groups_first = listed-first _ _ c.requires.1 c.in-Ok.ensures }
