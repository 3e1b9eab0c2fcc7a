-- `group_table::write_all` meets its contract: what the records below d become is written. Assumes nothing.
use Rattle.std.proofs.Common.{◌≡◌, [], length}
use Rattle.rules.specs.Places.{each}
use Rattle.rules.specs.InlineGroups.{inlined_at}
use Rattle.group_sizes.specs.Sizes.{total_size}
use Rattle.group_table.specs.Outputs.{output, added_all, empty}
use Rattle.group_table.proofs.write_all.Given as goal

abbrev pub invariant-loop-d : goal.invariant-loop-d
invariant-loop-d l =
    (output l.s l.out ≡ added_all (output empty l.initial.out) (each (inlined_at l.groups.table.records.now) l.d))
    × (l.s.count ≡ total_size l.groups.sizes.now l.groups.table.records.now l.d) × (l.env ≡ []) × (length l.out ≡ length l.initial.out)
