-- `group_sizes::members::Members::new` meets its contract: a declaration is no group field. Assumes nothing.
use Rattle.group_sizes.proofs.Fields.{after-start}
use Rattle.group_sizes.proofs.members.Members.new.Goals as goal

pub invariant_of-result : goal.invariant_of-result
invariant_of-result c = record { known = after-start _ _ c.requires.1 }
