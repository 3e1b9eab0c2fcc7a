-- The iterator is as it was, and what is left from the loop's place on is what was left at first.
use mathlib.Core.Path.{◌≡◌}
use Rattle.rules.specs.DesugarFlags.{entries_from}
use Rattle.flag_sizes.proofs.entries.NamingIterator.next.Given as goal

abbrev pub invariant-loop-p : goal.invariant-loop-p
invariant-loop-p l =
    (l.self ≡ l.initial.self) × (entries_from l.self.table.now l.self.flag l.self.place ≡ entries_from l.self.table.now l.self.flag l.p)
