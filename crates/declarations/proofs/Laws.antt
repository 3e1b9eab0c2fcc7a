-- Searches for a declaration from the start for its name. Assumes nothing.
use Rattle.std.proofs.Common.{None}
use Prim.Native.Nat.{ℕ, ◌%◌, ◌<◌}
use mathlib.Core.Path.{◌≡◌, sym, ap, ◌∙◌}
use mathlib.Core.List.{List}
use native.Mathlib.Omega.{arith}
use lib.ListN.{length, get_or}
use Rattle.rules.specs.Places.{nearest, holds_at, first_from, decl_named}
use Rattle.rules.specs.declared.Record.{Record}
use Rattle.rules.specs.declared.Target.TheVariants.{DeclNamed}
use Rattle.table.proofs.Searches.{none_below}
use Rattle.declarations.specs.Starts.{Starts}

module _ (rs : List Record) {starts : List ℕ} (w : Starts rs starts) where
  pub named-from : (x s : ℕ) → s ≡ get_or starts (x % 4093) 0 → first_from rs (DeclNamed x) s ≡ decl_named rs x
  unfolding decl_named
  named-from x s e = sym (w.skips x ∙ ap (first_from rs (DeclNamed x)) (sym e))

  pub none-earlier : (x p : ℕ) → p < length rs → p ≡ get_or starts (x % 4093) 0 → nearest (holds_at rs (DeclNamed x)) p ≡ None
  none-earlier x p l e = none_below (holds_at rs (DeclNamed x)) (length rs) p (omega arith) (w.skips x ∙ ap (first_from rs (DeclNamed x)) (sym e))
