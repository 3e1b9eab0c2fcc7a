-- `search::nearest` meets its contract: no place from q up to the given one is what is looked for. Assumes nothing.
use mathlib.Core.Path.{◌≡◌}
use Rattle.rules.specs.Table.{decode}
use Rattle.rules.specs.Places.{nearest, holds_at}
use Rattle.search.proofs.nearest.Given as goal

abbrev pub invariant-loop-q : goal.invariant-loop-q
invariant-loop-q l = nearest (holds_at l.table l.target) l.place ≡ nearest (holds_at l.table l.target) l.q
