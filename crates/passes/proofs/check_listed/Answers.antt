-- `passes::check_listed` meets its contract: one of passes 3 to 9 finds faults, or they write nothing. Assumes nothing.
use Rattle.passes.proofs.Laws.{faulty-later, clean-later}
use Rattle.passes.proofs.check_listed.Goals as goal

pub returns-in-Err : goal.returns-in-Err
returns-in-Err c =
    faulty-later c.args.listed.table.records.now c.args.faults.now _ c.args.table.now c.run_later.ensures
    c.in-Err.is

pub returns-in-Ok : goal.returns-in-Ok
returns-in-Ok c =
    clean-later c.args.listed.table.records.now c.args.faults.now _ c.args.table.now c.run_later.ensures
    c.write_listed.result c.in-Ok.is c.write_listed.ensures
