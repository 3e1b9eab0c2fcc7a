-- `enum_bounds::fill` meets its contract: after j turns the bounds of the first j ranges are there. Assumes nothing.
use mathlib.Core.Path.{◌≡◌}
use lib.ListN.{take}
use Rattle.enum_bounds.specs.Bounds.{lows_of, highs_of}
use Rattle.enum_bounds.proofs.fill.Given as goal

abbrev pub invariant-loop-j : goal.invariant-loop-j
invariant-loop-j l =
    (take l.j l.lows ≡ lows_of l.table (take l.j l.places)) × (take l.j l.highs ≡ highs_of l.table (take l.j l.places))
