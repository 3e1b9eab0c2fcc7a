-- What the loop has counted.
use mathlib.Core.Path.{◌≡◌}
use Rattle.flag_sizes.specs.Counts.{Counted}
use Rattle.flag_sizes.proofs.Laws.{size_below}
use Rattle.flag_sizes.proofs.total.Given as goal

abbrev pub invariant-loop-p : goal.invariant-loop-p
invariant-loop-p l =
    (l.n ≡ size_below l.table.records.now l.p) × (l.walk ≡ (l.table.records.now, l.p)) × Counted l.table.records.now l.counts l.p
