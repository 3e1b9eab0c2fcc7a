-- Laws of one tag: how many faults it can have, and the range that the next one belongs to. Assumes nothing.
use Rattle.std.proofs.Common.{Option, ℕ}
use Prim.Native.Nat.{ℕ, ◌+◌, ◌≤◌}
use mathlib.Core.Path.{◌≡◌}
use mathlib.Core.List.{List}
use native.Mathlib.Omega.{arith}
use native.Mathlib.Numerals.{add-one}
use borrow.Author.Tests.{ne_eqb}
use Rattle.std.proofs.lemmas.Grind.{common_steps}
use lib.ListN.{length}
use Rattle.rules.specs.Table.{at}
use Rattle.rules.specs.Places.{nearest}
use Rattle.rules.specs.Faults.{repeated}
use Rattle.rules.specs.EnumDeclarations.{again, value_faults, held_at, held, range_faults, default_faults, inner_faults, tag_faults}
use Rattle.rules.specs.declared.Record.{Record}
use Rattle.rules.specs.declared.Target.{Target}
use Rattle.table.proofs.Laws.{each-few, when-few}
use Rattle.enum_tags.specs.Before.{range_before}

repeated-few : (code : ℕ) (rs : List Record) (p : ℕ) (x : Option ℕ) → length (repeated code rs p x) ≤ 1
unfolding repeated
repeated-few code rs p x = grind (arith, common_steps)

again-few : (code : ℕ) (rs : List Record) (x : Target) (p : ℕ) → length (again code rs x p) ≤ 1
unfolding again
again-few code rs x p = repeated-few code rs p _

pub value-few : (rs : List Record) (low high p : ℕ) → length (value_faults rs low high p) ≤ 3
unfolding value_faults
value-few rs low high p =
    grind (arith, common_steps, again-few, when-few)

range-few : (rs : List Record) (most p : ℕ) → length (range_faults rs most p) ≤ 3
unfolding range_faults
range-few rs most p =
    grind (arith, common_steps, again-few, when-few)

default-few : (rs : List Record) (p : ℕ) → length (default_faults rs p) ≤ 2
unfolding default_faults
default-few rs p = grind (arith, common_steps, again-few)

held-few-at : (rs : List Record) (p q : ℕ) → length (held_at rs p q) ≤ 1
unfolding held_at
held-few-at rs p q = when-few _ _

held-few : (rs : List Record) (d n p : ℕ) → length (held rs d n p) ≤ n
unfolding held
held-few rs d n p = omega (arith, each-few (λ i. held_at rs p (d + 1 + i)) 1 n (λ i. held-few-at rs p (d + 1 + i)))

pub tag-few : (rs : List Record) (d n p : ℕ) → n ≤ 1600 → length (tag_faults rs d n p) ≤ 1603
unfolding tag_faults inner_faults
tag-few rs d n p h =
    grind (arith, common_steps, value-few, range-few, default-few, held-few)

-- the range that a value belongs to, one place further on
pub before-range : (rs : List Record) (p : ℕ) → ((at rs p).kind ≡ 41 → ⊥) → range_before rs (p + 1) ≡ range_before rs p
unfolding nearest
before-range rs p h = rw (add-one, nearest, ne_eqb _ _ h)
