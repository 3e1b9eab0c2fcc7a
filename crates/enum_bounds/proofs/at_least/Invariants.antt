-- `enum_bounds::at_least` meets its contract: after some turns the first numbers are counted. Assumes nothing.
use mathlib.Core.Path.{◌≡◌}
use lib.Dec.{leb}
use lib.ListN.{take}
use Rattle.std.specs.List.{count_by}
use Rattle.enum_bounds.proofs.at_least.Given as goal

abbrev pub invariant-loop-x : goal.invariant-loop-x
invariant-loop-x l = l.count ≡ count_by (λ x. leb l.value x) (take l.x-index l.numbers)
