-- The lines of the records before the loop's place are appended, each of at most 210 bytes.
use Prim.Native.Nat.{◌+◌, ◌*◌, ◌≤◌}
use mathlib.Core.Path.{◌≡◌}
use lib.ListN.{length}
use Rattle.rules.specs.Printed.{record_lines}
use Rattle.printed_text.specs.TextAppended.{TextAppended}
use Rattle.printed.proofs.append_records.Given as goal

abbrev pub invariant-loop-i : goal.invariant-loop-i
invariant-loop-i l =
    TextAppended l.initial.text l.at (record_lines l.table l.i) l.text l.p × (l.p ≤ l.at + 210 * l.i) × (length l.text ≡ length l.initial.text)
