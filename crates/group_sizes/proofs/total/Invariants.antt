-- `group_sizes::total` meets its contract: the sum of the sizes below d. Assumes nothing.
use Rattle.std.proofs.Common.{◌≡◌, ◌*◌, ◌≤◌}
use Rattle.group_sizes.specs.Sizes.{total_size}
use Rattle.group_sizes.proofs.total.Given as goal

abbrev pub invariant-loop-d : goal.invariant-loop-d
invariant-loop-d l = (l.s ≡ total_size l.sizes l.table.records.now l.d) × (l.s ≤ 65536 * l.d)
