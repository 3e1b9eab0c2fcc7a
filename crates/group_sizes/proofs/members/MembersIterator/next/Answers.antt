-- What is known of the place behind. Assumes nothing.
use Rattle.group_sizes.proofs.Fields.{after_next}
use Rattle.group_sizes.proofs.members.MembersIterator.next.Goals as goal

pub invariant_of-self : goal.invariant_of-self
invariant_of-self c =
    record { known = rw (c.is_constraint_or_condition.ensures, c.kind-kind.ensures) (after_next _ _ c.args.self.now.known) }
