-- `accepted_table::write_listed` meets its contract: the small buffer is enough, or nothing was written yet. Assumes nothing.
use Rattle.std.proofs.Common.{arith, List, ℕ, ◌≡◌}
use Rattle.rules.specs.InlineGroups.{inlined}
use Rattle.rules.specs.Replies.{answered, by_size}
use Rattle.accepted_table.proofs.Laws.{wrote-done, wrote-again, wrote-or}
use Rattle.accepted_table.proofs.write_listed.Goals as goal
use Rattle.accepted_table.proofs.write_listed.Goals.{then-listed-le-FEW_RECORDS+in_default, else-listed-le-FEW_RECORDS}

pub returns-in-Some : goal.returns-in-Some
returns-in-Some c = wrote-done _ _ _ _ _ c.write_in.ensures _ c.in-Some.is

pub returns : goal.returns
returns c =
    let large : (f : List ℕ) → answered c.unwrap_or.result c.write_in-2.new.table f ≡ by_size (inlined c.args.listed.table.records.now) c.if-listed-le-FEW_RECORDS.table f =
    rw c.unwrap_or.ensures (wrote-or _ _ _ _ _ c.write_in-2.ensures (omega arith) _) in
    elim c.if-listed-le-FEW_RECORDS.branch [
      | then-listed-le-FEW_RECORDS+in_default w ↦ wrote-again _ _ _ _ _ w.write_in.ensures _ w.in_default.is (rw w.table-is at large)
      | else-listed-le-FEW_RECORDS w ↦ rw w.table-is at large
    ]
