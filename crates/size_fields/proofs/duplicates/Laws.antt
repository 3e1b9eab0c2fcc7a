-- The kinds of sizes. Assumes nothing.
use Prim.Native.Nat.{ℕ, ◌≤◌}
use mathlib.Core.Path.{◌≡◌}
use mathlib.Core.Bool.{true}
use borrow.Author.Tests.{leb-true}
use lib.Dec.{leb}
use Rattle.rules.specs.Kinds.{is_size}
use Rattle.table.proofs.Searches.{and-true}

pub size-kind : (k : ℕ) → is_size k ≡ true → (22 ≤ k) × (k ≤ 24)
size-kind k e = let s = and-true (leb 22 k) (leb k 24) e in (leb-true 22 k s.0, leb-true k 24 s.1)
