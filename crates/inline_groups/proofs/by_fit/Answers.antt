-- `inline_groups::by_fit` meets its contract. Assumes nothing.
use Rattle.inline_groups.specs.Inlinings.{by_fit}
use Rattle.inline_groups.proofs.by_fit.Goals as goal

pub returns-in-None : goal.returns-in-None
unfolding by_fit
returns-in-None c = rw c.in-None.is

pub returns-in-Some : goal.returns-in-Some
unfolding by_fit
returns-in-Some c = rw c.in-Some.is
