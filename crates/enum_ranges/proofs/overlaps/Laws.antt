-- How many faults a pair of ranges has at most. Assumes nothing.
use Prim.Native.Nat.{ℕ, ◌≤◌}
use mathlib.Core.List.{List}
use lib.ListN.{length}
use Rattle.rules.specs.EnumDeclarations.{overlap}
use Rattle.rules.specs.declared.Record.{Record}
use Rattle.table.proofs.Laws.{when-few}

pub overlap-few : (rs : List Record) (p q : ℕ) → length (overlap rs p q) ≤ 1
unfolding overlap
overlap-few rs p q = when-few _ _
