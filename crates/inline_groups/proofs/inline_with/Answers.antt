-- `inline_groups::inline_with` meets its contract: too many records, too few in the buffer for them, or the inlined table. Assumes nothing.
use native.Mathlib.Omega.{arith}
use Rattle.inline_groups.proofs.Wholes.{ret-swollen, ret-buffer-short, ret-fits}
use Rattle.inline_groups.proofs.inline_with.Goals as goal

pub returns-then-n-gt-MOST_RECORDS : goal.returns-then-n-gt-MOST_RECORDS
returns-then-n-gt-MOST_RECORDS c =
    ret-swollen c.args.groups.now.measured c.args.out.now (rw c.total-n.ensures at c.if-n-gt-MOST_RECORDS.true)

pub returns-then-out-n : goal.returns-then-out-n
returns-then-out-n c =
    let e = c.total-n.ensures in
    ret-buffer-short c.args.groups.now.measured c.args.out.now (omega (arith, e)) (omega (arith, e))

pub returns : goal.returns
returns c =
    let e = c.total-n.ensures in
    ret-fits c.args.groups.now.measured c.args.out.now (omega (arith, e)) (omega (arith, e)) c.write_all.ensures c.by_fit.ensures
