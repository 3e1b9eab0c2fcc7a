-- The lines of the faults before the loop's place are appended, each of at most 105 bytes.
use Prim.Native.Nat.{◌+◌, ◌*◌, ◌≤◌}
use mathlib.Core.Path.{◌≡◌}
use lib.ListN.{length}
use Rattle.rules.specs.Printed.{fault_lines}
use Rattle.printed_text.specs.TextAppended.{TextAppended}
use Rattle.printed.proofs.append_faults.Given as goal

abbrev pub invariant-loop-i : goal.invariant-loop-i
invariant-loop-i l =
    TextAppended l.initial.text l.at (fault_lines l.faults l.i) l.text l.p × (l.p ≤ l.at + 105 * l.i) × (length l.text ≡ length l.initial.text)
