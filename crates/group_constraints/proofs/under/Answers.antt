-- `group_constraints::under` meets its contract: what the chain finds is the constraint that holds. Assumes nothing.
use Rattle.std.proofs.Common.{rules, refl}
use Rattle.group_constraints.proofs.Laws.{find-lookup}
use Rattle.group_constraints.proofs.under.Goals as goal

pub returns-in-Some : goal.returns-in-Some
returns-in-Some g c = rw (← find-lookup _ _ _, ← c.lookup.ensures, c.in-Some.is) (search rules)

pub returns : goal.returns
returns g c = rw (← find-lookup _ _ _, ← c.lookup.ensures, c.in-None.is) refl
