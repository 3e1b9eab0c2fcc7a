-- The conditions that the loop has passed are stamped: a name without the stamp has no entries but those from the loop's place on.
use Prim.Native.Nat.{ℕ, ◌%◌, ◌≤◌}
use mathlib.Core.Path.{◌≡◌}
use lib.ListN.{length, get_or}
use Rattle.rules.specs.DesugarFlags.{entries_from}
use Rattle.flag_sizes.proofs.condition_marks.mark_conditions.Given as goal

abbrev pub invariant-loop-p : goal.invariant-loop-p
invariant-loop-p l =
    (4093 ≤ length l.marks) × ((x : ℕ) → ¬ (get_or l.marks (x % 4093) 0 ≡ l.from) → entries_from l.table x l.p ≡ entries_from l.table x l.from)
