-- The declaration that a group field names stands in the table, before the one that holds the field. Assumes nothing.
use Rattle.std.proofs.Common.{Some, ℕ}
use Prim.Native.Nat.{ℕ, ◌-◌, ◌<◌, ◌≤◌}
use mathlib.Core.Path.{◌≡◌, sym, ◌∙◌}
use mathlib.Core.List.{List}
use mathlib.Core.Bool.{true}
use native.Mathlib.Omega.{arith}
use borrow.Author.Tests.{eq-eqb}
use lib.Dec.{eqb}
use lib.ListN.{length, get_or}
use Rattle.rules.specs.Kinds as kind
use Rattle.rules.specs.Kinds.{is, is_decl, is_named_decl}
use Rattle.rules.specs.Table.{at}
use Rattle.rules.specs.Places.{nearest, holds_at, decl_named}
use Rattle.rules.specs.declared.Record.{Record}
use Rattle.rules.specs.declared.Target.TheVariants.{Decl, DeclNamed}
use Rattle.table.proofs.Laws.{first-in}
use Rattle.table.proofs.Searches.{and-true, first-is, named-is-decl}
use Rattle.group_sizes.specs.GroupsFirst.{GroupsFirst}
use Rattle.group_sizes.specs.Members.{MemberIn}
use Rattle.group_sizes.specs.declared.members.Member.{Member}
use Rattle.group_sizes.specs.Targets.{TargetsKnown}

-- ---- the declaration that a group field names

module _ (rs : List Record) where
  pub named_in : (x : ℕ) {g : ℕ} → decl_named rs x ≡ Some g → g < length rs
  unfolding decl_named
  named_in x {g} e = (first-in (holds_at rs (DeclNamed x)) (length rs) 0 g e).1

  pub named-declares : (x : ℕ) {g : ℕ} → decl_named rs x ≡ Some g → is_decl (at rs g).kind ≡ true
  unfolding decl_named
  named-declares x {g} e =
      named-is-decl (at rs g).kind (and-true (is_named_decl (at rs g).kind) (eqb (at rs g).name x) (first-is (holds_at rs (DeclNamed x)) 0 (length rs - 0) g e)).0

  -- it stands before the declaration that holds the field
  pub group-before : GroupsFirst rs → (p : ℕ) {d g : ℕ} → p < length rs → is kind.group_field (at rs p) ≡ true → nearest (holds_at rs Decl) p ≡ Some d → decl_named rs (at rs p).second ≡ Some g → g < d
  group-before t p l k h e = let z = t p l k in rw (e, h) at z

-- the declaration that a group field names has a size
pub target-in : {rs : List Record} {targets : List ℕ} (sizes : List ℕ) {m : Member} → TargetsKnown rs targets (length rs) → length rs ≤ length sizes → MemberIn rs m → m.kind ≡ 34 → get_or targets m.place 0 < length sizes
target-in {rs} sizes {m} r l h e = let n = named_in rs (at rs m.place).second (r.right m.place h.below (eq-eqb _ _ (sym h.kind ∙ e))) in omega arith
