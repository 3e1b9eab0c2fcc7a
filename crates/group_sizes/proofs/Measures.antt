-- The sizes, computed in the order of the table. Assumes nothing.
use Rattle.std.proofs.Common.{Some}
use Prim.Native.Nat.{ℕ, zero, suc, ◌+◌, ◌-◌, ◌<◌, ◌≤◌, min}
use mathlib.Core.Path.{◌≡◌, refl}
use mathlib.Core.List.{List}
use mathlib.Core.Bool.{true, false}
use native.Mathlib.Omega.{arith}
use native.Mathlib.Numerals.{add-one}
use Rattle.std.proofs.lemmas.Grind.{common_steps}
use lib.Dec.{eqb}
use Rattle.std.specs.Prelude.{if◌then◌else◌}
use lib.ListN.{length, get_or, set, length-set}
use lib.Seq.{get_or-set_same, get_or-set_other}
use Rattle.rules.specs.Table.{at}
use Rattle.rules.specs.Places.{nearest, holds_at}
use Rattle.rules.specs.Kinds.{is_decl}
use Rattle.rules.specs.InlineGroups.{is_kept}
use Rattle.rules.specs.declared.Record.{Record}
use Rattle.rules.specs.declared.Target.TheVariants.{Decl}
use Rattle.group_sizes.specs.GroupsFirst.{GroupsFirst}
use Rattle.group_sizes.specs.Targets.{TargetsKnown}
use Rattle.group_sizes.specs.Sizes.{size_at, fields_size, size_from, total_size, Sized}
use Rattle.group_sizes.proofs.Known.{group-before}
use Rattle.group_sizes.proofs.Fields.{here-start, here-next}

-- ---- a size that is stored changes none that it is counted from

module _ (rs : List Record) (t : GroupsFirst rs) (targets : List ℕ) (y : TargetsKnown rs targets (length rs)) (sizes : List ℕ) (q v d : ℕ) (l : d ≤ q) where
  at-kept : (p : ℕ) → p < length rs → nearest (holds_at rs Decl) p ≡ Some d → size_at targets (set sizes q v) rs p ≡ size_at targets sizes rs p
  unfolding size_at
  at-kept p k h =
      let b : eqb (at rs p).kind 34 ≡ true → get_or targets p 0 < d = λ i. group-before rs t p k i h (y.right p k i) in
      grind (arith, common_steps, b, get_or-set_other sizes q (get_or targets p 0) v 0)

  fields-kept : (n p : ℕ) → p + n ≤ length rs → nearest (holds_at rs Decl) p ≡ Some d → fields_size targets (set sizes q v) rs p n ≡ fields_size targets sizes rs p n
  unfolding fields_size
  fields-kept zero p k h = refl
  fields-kept (suc n) p k h = more (at-kept p (omega arith) h) (λ o. fields-kept n (p + 1) (omega arith) (here-next rs p o h))
    where
      more : size_at targets (set sizes q v) rs p ≡ size_at targets sizes rs p → (is_decl (at rs p).kind ≡ false → fields_size targets (set sizes q v) rs (p + 1) n ≡ fields_size targets sizes rs (p + 1) n)
          → fields_size targets (set sizes q v) rs p (suc n) ≡ fields_size targets sizes rs p (suc n)
      more e f = grind (arith, common_steps)

  from-kept : d < length rs → is_decl (at rs d).kind ≡ true → size_from targets (set sizes q v) rs (d + 1) ≡ size_from targets sizes rs (d + 1)
  from-kept k i = fields-kept (length rs - (d + 1)) (d + 1) (omega arith) (here-start rs d i)

-- ---- all sizes

module _ {rs : List Record} {targets sizes : List ℕ} {q : ℕ} (w : Sized rs targets sizes q) where
  pub sized-other : is_decl (at rs q).kind ≡ false → Sized rs targets sizes (q + 1)
  sized-other o = record { long = w.long; right = λ d h i. grind (arith, common_steps, w.right d) }

  pub sized-next : {v s : ℕ} → GroupsFirst rs → TargetsKnown rs targets (length rs) → q < length rs → is_decl (at rs q).kind ≡ true → v ≡ min 1601 s → s ≡ size_from targets sizes rs (q + 1) → Sized rs targets (set sizes q v) (q + 1)
  sized-next {v} {s} t y l i e f = record { long = (let a = length-set sizes q v in let b = w.long in omega arith); right = λ d h j. right d h j (from-kept rs t targets y sizes q v d (omega arith) (omega arith) j) }
    where
      right : (d : ℕ) → d < q + 1 → is_decl (at rs d).kind ≡ true → size_from targets (set sizes q v) rs (d + 1) ≡ size_from targets sizes rs (d + 1) → get_or (set sizes q v) d 0 ≡ min 1601 (size_from targets (set sizes q v) rs (d + 1))
      right d h j k = grind (arith, common_steps, w.long, w.right d, get_or-set_same sizes q v 0, get_or-set_other sizes q d v 0)

-- ---- the whole

pub total-next : (sizes : List ℕ) (rs : List Record) (d : ℕ) → total_size sizes rs (d + 1) ≡ total_size sizes rs d + (if is_kept (at rs d).kind then 1 + get_or sizes d 0 else 0)
unfolding total_size
total-next sizes rs d = rw (add-one d, total_size)
