-- `search::first_within` meets its contract. Assumes nothing.
use native.Mathlib.Omega.{arith}
use mathlib.Core.Path.{sym}
use Rattle.rules.specs.Places.{first_within, first_after}
use Rattle.table.proofs.Laws.{nearest-below}
use Rattle.search.proofs.first_within.Goals as goal

pub overflow_add-decl : goal.overflow_add-decl
overflow_add-decl c =
    omega (arith, nearest-below _ _ c.in_ok-decl.decl (sym c.in_ok-decl.ensures), c.ranges.place)

pub returns : goal.returns
unfolding first_within first_after
returns c = rw (← c.in_ok-decl.ensures) c.first.ensures

pub returns-in_err-decl : goal.returns-in_err-decl
unfolding first_within first_after
returns-in_err-decl c = rw (← c.in_err-decl.ensures) c.from_residual.ensures
