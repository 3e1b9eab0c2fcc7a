-- `search::members::inside` meets its contract: both ask for the kind of what was found. Assumes nothing.
use native.Mathlib.Omega.{arith}
use Rattle.std.proofs.lemmas.Grind.{common_steps}
use Rattle.rules.specs.Places.{found_inside}
use Rattle.search.proofs.members.inside.Goals as goal

pub returns : goal.returns
unfolding found_inside
returns c = grind (arith, common_steps)
