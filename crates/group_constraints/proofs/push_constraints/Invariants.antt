-- `group_constraints::push_constraints` meets its contract: the first m of the buffer, and the constraints still to come. Assumes nothing.
use Rattle.std.proofs.Common.{◌≡◌, ◌+◌, ◌++◌, length, take}
use Rattle.group_constraints.specs.Constraints.{constraints_from}
use Rattle.group_constraints.proofs.push_constraints.Given as goal

abbrev pub invariant-loop-p : goal.invariant-loop-p
invariant-loop-p l =
    (take l.count l.initial.env ++ constraints_from l.table.records.now l.place ≡ take l.m l.env ++ constraints_from l.table.records.now l.p)
    × (l.count + length (constraints_from l.table.records.now l.place) ≡ l.m + length (constraints_from l.table.records.now l.p))
