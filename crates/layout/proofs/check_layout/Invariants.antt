-- `layout::check_layout` meets its contract: the places below p are sound. Assumes nothing.
use Prim.Native.Nat.{◌-◌}
use mathlib.Core.Path.{◌≡◌}
use Rattle.rules.specs.Table.{decode}
use Rattle.rules.specs.Places.{first}
use Rattle.rules.specs.Layouts.{unsound_at}
use Rattle.layout.specs.Surroundings.{around}
use Rattle.layout.proofs.check_layout.Given as goal

abbrev pub invariant-loop-p : goal.invariant-loop-p
invariant-loop-p l = (first (unsound_at l.table) 0 (l.n - 0) ≡ first (unsound_at l.table) l.p (l.n - l.p)) × (l.a ≡ around (decode l.table) l.p)
