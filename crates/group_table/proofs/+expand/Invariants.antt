-- `group_table::expand` calls itself on groups that stand before its declaration, whose place is the measure. Assumes nothing.
use Rattle.std.proofs.Common.{◌≡◌}
use Rattle.group_table.proofs.Expands.{Walking}
use Rattle.group_table.proofs.+expand.Given as goal

abbrev pub decreases-expand : goal.decreases-expand
decreases-expand l = l.decl

-- what is written and what is left make the whole
abbrev pub invariant-loop-place : goal.invariant-loop-place
invariant-loop-place l =
    (l.place-iterator.table.now ≡ l.groups.table.records.now)
    × Walking l.groups.table.records.now l.groups.targets.now l.groups.sizes.now l.decl l.initial.env l.initial.out l.initial.s l.env l.out l.s l.place-iterator.place
