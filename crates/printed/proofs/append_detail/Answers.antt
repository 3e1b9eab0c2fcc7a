-- `printed::append_detail` meets its contract. Assumes nothing.
use native.Mathlib.Omega.{arith}
use Rattle.rules.specs.Replies.{numbered}
use Rattle.rules.specs.Printed.{detail}
use mathlib.Core.Path.{sym}
use Rattle.printed_text.proofs.Laws.{put-nil}
use Rattle.printed.proofs.Laws.{no-detail, records-behind}
use Rattle.printed.proofs.append_detail.Goals as goal

pub append_records-requires : goal.append_records-requires
append_records-requires c =
    let h = records-behind _ c.in-Accepted.is in
    (omega (arith, h, c.requires), omega (arith, h, c.requires))

pub returns-in-Faulty : goal.returns-in-Faulty
unfolding numbered detail
returns-in-Faulty c =
    rw (c.in-Faulty.is, ← c.kept_faults.ensures) c.append_faults.ensures

pub returns-in-Accepted : goal.returns-in-Accepted
unfolding numbered detail
returns-in-Accepted c =
    rw c.in-Accepted.is c.append_records.ensures

pub returns-in_default : goal.returns-in_default
returns-in_default c = rw (no-detail _ c.in_default.not-Faulty c.in_default.not-Accepted _ _) (sym (put-nil _ _), omega arith)
