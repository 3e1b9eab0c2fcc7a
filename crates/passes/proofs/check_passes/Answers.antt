-- `passes::check_passes` meets its contract: pass 1 finds faults, or writes nothing. Assumes nothing.
use borrow.Author.Rules.{rules}
use mathlib.Core.Path.{sym, ◌∙◌}
use native.Mathlib.Omega.{arith}
use Rattle.rules.specs.Scopes.{pass1}
use Rattle.passes.proofs.Laws.{total-is, no-fault, told, faulty-one}
use Rattle.passes.proofs.check_passes.Goals as goal

pub returns-then-tally-gt0 : goal.returns-then-tally-gt0
returns-then-tally-gt0 c =
    let e = c.scope_new-tally.ensures in
    let rs = c.args.input.records.now in
    told c.args.faults.now (pass1 rs) e 1 c.args.table.now ∙ sym (faulty-one rs c.args.table.now c.args.faults.now (omega (arith, total-is c.args.faults.now (pass1 rs) e)))

pub check_order-requires : goal.check_order-requires
check_order-requires c =
    (c.requires, (no-fault c.args.faults.now (pass1 c.args.input.records.now) c.scope_new-tally.ensures (search rules)).1)

pub returns : goal.returns
returns c =
    rw (← (no-fault c.args.faults.now (pass1 c.args.input.records.now) c.scope_new-tally.ensures (search rules)).0) c.check_order.ensures
