-- `printed_text::replies::append_reply` meets its contract: each reply with its name and values. Assumes nothing.
use Rattle.rules.specs.Replies.{numbered}
use Rattle.rules.specs.Printed.{reply_line, names, ascii}
use Rattle.printed_text.proofs.replies.append_reply.Goals as goal

pub returns-in-Uneven : goal.returns-in-Uneven
unfolding reply_line numbered names ascii
returns-in-Uneven c = rw c.in-Uneven.is c.append_line.ensures

pub returns-in-TooLong : goal.returns-in-TooLong
unfolding reply_line numbered names ascii
returns-in-TooLong c = rw c.in-TooLong.is c.append_line-in-TooLong.ensures

pub returns-in-Malformed : goal.returns-in-Malformed
unfolding reply_line numbered names ascii
returns-in-Malformed c = rw c.in-Malformed.is c.append_line-in-Malformed.ensures

pub returns-in-Faulty : goal.returns-in-Faulty
unfolding reply_line numbered names ascii
returns-in-Faulty c = rw (c.in-Faulty.is, ← c.from.ensures) c.append_line-in-Faulty.ensures

pub returns-in-Swollen : goal.returns-in-Swollen
unfolding reply_line numbered names ascii
returns-in-Swollen c = rw c.in-Swollen.is c.append_line-in-Swollen.ensures

pub returns-in-Unfit : goal.returns-in-Unfit
unfolding reply_line numbered names ascii
returns-in-Unfit c = rw (c.in-Unfit.is, ← c.from-in-Unfit.ensures) c.append_line-in-Unfit.ensures

pub returns-in-Loose : goal.returns-in-Loose
unfolding reply_line numbered names ascii
returns-in-Loose c = rw (c.in-Loose.is, ← c.from-in-Loose.ensures) c.append_line-in-Loose.ensures

pub returns-in-Overlisted : goal.returns-in-Overlisted
unfolding reply_line numbered names ascii
returns-in-Overlisted c = rw c.in-Overlisted.is c.append_line-in-Overlisted.ensures

pub returns-in-NoRoom : goal.returns-in-NoRoom
unfolding reply_line numbered names ascii
returns-in-NoRoom c = rw c.in-NoRoom.is c.append_line-in-NoRoom.ensures

pub returns-in-Accepted : goal.returns-in-Accepted
unfolding reply_line numbered names ascii
returns-in-Accepted c = rw c.in-Accepted.is c.append_line-in-Accepted.ensures
