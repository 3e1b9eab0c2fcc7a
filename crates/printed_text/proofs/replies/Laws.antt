-- Laws of replies: how long their lines are. Assumes nothing.
use Prim.Native.Nat.{◌-◌, ◌≤◌}
use native.Mathlib.Omega.{arith}
use lib.ListN.{length, get_or}
use Rattle.rules.specs.Printed.{ascii, names, reply_line}
use Rattle.rules.specs.Replies.{numbered}
use Rattle.rules.specs.declared.Reply.{Reply}
use Rattle.rules.specs.declared.Reply.TheVariants.{Uneven, TooLong, Malformed, Faulty, Swollen, Unfit, Loose, Overlisted, NoRoom, Accepted}
use Rattle.printed_text.proofs.Laws.{length-line}

-- a reply's name and numbers are few
reply-few : (r : Reply) → (length (ascii (get_or names ((numbered r).row - 1) "")) ≤ 10) × (length (numbered r).values ≤ 2)
unfolding numbered names ascii
reply-few Uneven = (omega arith, omega arith)
reply-few TooLong = (omega arith, omega arith)
reply-few (Malformed place) = (omega arith, omega arith)
reply-few (Faulty pass total) = (omega arith, omega arith)
reply-few Swollen = (omega arith, omega arith)
reply-few (Unfit key) = (omega arith, omega arith)
reply-few (Loose key) = (omega arith, omega arith)
reply-few Overlisted = (omega arith, omega arith)
reply-few (NoRoom needed) = (omega arith, omega arith)
reply-few (Accepted records) = (omega arith, omega arith)

pub length-reply : (r : Reply) → length (reply_line (numbered r)) ≤ 60
unfolding reply_line
length-reply r =
    omega (arith, length-line (ascii (get_or names ((numbered r).row - 1) "")) (numbered r).values, reply-few r)
