-- Past the end every place has the same record, so a walker that stays there reads what the next place has. Assumes nothing.
use Prim.Native.Nat.{ℕ, ◌+◌, ◌<◌, ◌≤◌}
use mathlib.Core.Path.{◌≡◌}
use mathlib.Core.List.{List}
use lib.ListN.{length}
use native.Mathlib.Omega.{arith}
use borrow.Author.Tests.{lt-ltb, le-ltb}
use Rattle.rules.specs.Table.{at}
use Rattle.rules.specs.declared.Record.{Record}
use Rattle.table.proofs.Laws.{at-past}
use Rattle.walker.specs.Steps.{next_place}

pub at_next : (rs : List Record) (p : ℕ) → at rs (next_place rs p) ≡ at rs (p + 1)
unfolding next_place
at_next rs p = grind (arith, at-past rs p, at-past rs (p + 1))

module _ (rs : List Record) (p : ℕ) where
  pub next-within : p < length rs → p + 1 ≡ next_place rs p
  unfolding next_place
  next-within h = rw (lt-ltb _ _ h)

  pub next_past : length rs ≤ p → p ≡ next_place rs p
  unfolding next_place
  next_past h = rw (le-ltb _ _ h)
