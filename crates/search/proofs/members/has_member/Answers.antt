-- `search::members::has_member` meets its contract. Assumes nothing.
use native.Mathlib.Omega.{arith}
use Rattle.std.proofs.lemmas.Grind.{common_steps}
use Rattle.rules.specs.Places.{found_inside}
use Rattle.search.proofs.members.Laws.{none-past}
use Rattle.search.proofs.members.has_member.Goals as goal

pub returns-then-decl-table : goal.returns-then-decl-table
unfolding found_inside
returns-then-decl-table c = grind (arith, common_steps)

pub returns-else-decl-table : goal.returns-else-decl-table
returns-else-decl-table c =
    let z = none-past _ c.args.target _ c.if-decl-table.false in
    grind (arith, common_steps)
