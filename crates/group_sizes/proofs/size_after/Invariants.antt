-- `group_sizes::size_after` meets its contract: what is counted and what is left make the whole. Assumes nothing.
use Rattle.std.proofs.Common.{◌≡◌, ◌+◌, ◌*◌, ◌≤◌}
use Rattle.group_sizes.specs.Sizes.{size_from}
use Rattle.group_sizes.proofs.size_after.Given as goal

abbrev pub invariant-loop-member : goal.invariant-loop-member
invariant-loop-member l =
    (l.member-iterator.table.now ≡ l.table.records.now) × (l.s ≤ 65535 * l.member-iterator.place)
    × (l.s + size_from l.targets l.sizes l.table.records.now l.member-iterator.place ≡ size_from l.targets l.sizes l.table.records.now (l.decl + 1))
