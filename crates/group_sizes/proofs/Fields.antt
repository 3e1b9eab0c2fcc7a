-- The records behind a declaration, one at a time: whose they are, whether they belong to a group field, and how many they become.
-- Assumes nothing.
use Rattle.std.proofs.Common.{Option, Some, ℕ}
use Prim.Native.Nat.{ℕ, ◌+◌, ◌<◌}
use mathlib.Core.Path.{◌≡◌}
use mathlib.Core.List.{List}
use mathlib.Core.Bool.{Bool, true, false, ◌&&◌, ◌||◌}
use mathlib.Core.Logic.{inl, inr}
use native.Mathlib.Omega.{arith}
use native.Mathlib.Numerals.{add-one}
use lib.Dec.{eqb}
use Rattle.std.specs.Prelude.{if◌then◌else◌}
use lib.ListN.{length}
use Rattle.std.proofs.lemmas.Grind.{common_steps}
use Rattle.rules.specs.Table.{at}
use Rattle.rules.specs.Places.{nearest, holds_at}
use Rattle.rules.specs.Kinds.{is_decl}
use Rattle.rules.specs.InlineGroups.{is_constraint_or_condition, after_group}
use Rattle.rules.specs.declared.Record.{Record}
use Rattle.rules.specs.declared.Target.TheVariants.{Decl}
use Rattle.table.proofs.Laws.{left-suc, left-none}
use Rattle.group_sizes.specs.Members.{Ends}
use Rattle.group_sizes.specs.Sizes.{size_at, fields_size, size_from}

-- ---- declarations and the places after them

module _ (rs : List Record) where
  pub here-start : (d : ℕ) → is_decl (at rs d).kind ≡ true → nearest (holds_at rs Decl) (d + 1) ≡ Some d
  unfolding nearest
  here-start d e = rw (add-one d, nearest, e)

  pub here-next : (p : ℕ) {f : Option ℕ} → is_decl (at rs p).kind ≡ false → nearest (holds_at rs Decl) p ≡ f → nearest (holds_at rs Decl) (p + 1) ≡ f
  unfolding nearest
  here-next p e h = rw (add-one p, nearest, e) h

  pub after-start : (d : ℕ) → is_decl (at rs d).kind ≡ true → false ≡ after_group rs (d + 1)
  unfolding after_group
  after-start d e = rw (add-one d) (grind (arith, common_steps))

  pub after_next : (p : ℕ) {b : Bool} → b ≡ after_group rs p → (eqb (at rs p).kind 34 || (is_constraint_or_condition (at rs p).kind && b)) ≡ after_group rs (p + 1)
  unfolding after_group
  after_next p e = rw (add-one p, after_group, e)

  -- ---- the records of a declaration, one at a time
  pub size-next : (p : ℕ) → p < length rs → (targets sizes : List ℕ)
      → size_from targets sizes rs p ≡ (if is_decl (at rs p).kind then 0 else size_at targets sizes rs p + size_from targets sizes rs (p + 1))
  unfolding fields_size
  size-next p l targets sizes = rw (left-suc (length rs) p l, fields_size)

  pub size-end : (p : ℕ) → Ends rs p → (targets sizes : List ℕ) → size_from targets sizes rs p ≡ 0
  unfolding fields_size
  size-end p (inl h) targets sizes = rw (left-suc (length rs) p h.0, fields_size, h.1)
  size-end p (inr h) targets sizes = rw (left-none (length rs) p h, fields_size)
