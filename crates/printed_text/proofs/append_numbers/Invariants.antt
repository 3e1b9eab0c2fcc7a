-- The numbers that are left, written from the loop's place on, complete the whole; each takes at most 21 bytes.
use Prim.Native.Nat.{◌+◌, ◌*◌, ◌≤◌}
use mathlib.Core.Path.{◌≡◌}
use lib.ListN.{length, drop}
use Rattle.rules.specs.Printed.{listing}
use Rattle.printed_text.specs.TextAppended.{put_text}
use Rattle.printed_text.proofs.append_numbers.Given as goal

abbrev pub invariant-loop-number : goal.invariant-loop-number
invariant-loop-number l =
    (put_text l.text l.p (listing (drop l.number-index l.numbers)) ≡ put_text l.initial.text l.at (listing l.numbers))
    × (l.p + length (listing (drop l.number-index l.numbers)) ≡ l.at + length (listing l.numbers))
    × (l.p ≤ l.at + 21 * l.number-index)
    × (length l.text ≡ length l.initial.text)
