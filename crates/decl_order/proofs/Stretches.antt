-- The records of a declaration: its own comes first, no other declaration is among them, and each is as
-- in the table. Assumes nothing.
use Rattle.std.proofs.Common.{Some, ℕ}
use Rattle.std.proofs.lemmas.Grind.{common_steps}
use mathlib.Core.Path.{◌≡◌, refl}
use mathlib.Core.Bool.{false}
use mathlib.Core.List.{List}
use Prim.Native.Nat.{ℕ, ◌+◌, ◌-◌, ◌<◌}
use native.Mathlib.Omega.{arith}
use lib.ListN.{length}
use Rattle.rules.specs.Kinds.{is_decl}
use Rattle.rules.specs.Table.{at}
use Rattle.rules.specs.Places.{first, holds_at, member_count}
use Rattle.rules.specs.DeclIdentifiers.{decl_records}
use Rattle.rules.specs.declared.Record.{Record}
use Rattle.rules.specs.declared.Target.TheVariants.{Decl}
use Rattle.table.proofs.Searches.{first-before, first-none}
use Rattle.search.proofs.members.Laws.{members-end}
use Rattle.decl_order.proofs.Copies.{decl-length}

module _ (rs : List Record) (d : ℕ) (l : d < length rs) where
  -- no declaration stands among the members
  pub members-free : (i : ℕ) → d < i → i < d + (1 + member_count rs d) → is_decl (at rs i).kind ≡ false
  members-free i a b =
      let f = holds_at rs Decl in
      let n = length rs - (d + 1) in
      grind (arith, common_steps, members-end rs d l _ refl, λ (e : ℕ) (h : first f (d + 1) n ≡ Some e). first-before f (d + 1) n e i h, first-none f (d + 1) n i)

  -- each record is as in the table
  pub decl-at : (i : ℕ) → i < length (decl_records rs d) → at (decl_records rs d) i ≡ at rs (d + i)
  unfolding at decl_records
  decl-at i h = grind (arith, common_steps)

  -- the first is the declaration's own
  pub decl-own : at (decl_records rs d) 0 ≡ at rs d
  decl-own = grind (arith, common_steps, decl-at 0, decl-length rs d l)

  -- no other is a declaration
  pub decl-members : (i : ℕ) → 0 < i → i < length (decl_records rs d) → is_decl (at (decl_records rs d) i).kind ≡ false
  decl-members i a b = grind (arith, common_steps, decl-at i b, members-free (d + i), decl-length rs d l)
