-- `search::first` meets its contract: no place from the given one up to p is what is looked for. Assumes nothing.
use mathlib.Core.Path.{◌≡◌}
use Rattle.rules.specs.Table.{decode}
use Rattle.rules.specs.Places.{first_from}
use Rattle.search.proofs.first.Given as goal

abbrev pub invariant-loop-p : goal.invariant-loop-p
invariant-loop-p l = first_from l.table l.target l.from ≡ first_from l.table l.target l.p
