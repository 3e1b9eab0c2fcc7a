-- `payload_fields::parents::mark_parents` meets its contract: the parents of the children below child are marked. Assumes nothing.
use Rattle.payload_fields.specs.Parents.{NoChildWithField}
use Rattle.payload_fields.proofs.parents.mark_parents.Given as goal

abbrev pub invariant-loop-child : goal.invariant-loop-child
invariant-loop-child l = NoChildWithField l.table l.parents l.child
