-- The starts of searches, a place at a time. Assumes nothing.
use Rattle.std.proofs.Common.{None}
use Prim.Native.Nat.{ℕ, ◌+◌, ◌%◌, ◌<◌, ◌≤◌}
use mathlib.Core.Path.{◌≡◌, refl, sym, ap, ◌∙◌}
use mathlib.Core.Bool.{false}
use mathlib.Core.List.{List, []}
use native.Mathlib.Omega.{arith}
use native.Mathlib.Nat.{mod-lt}
use native.Mathlib.Decide.{ℕ_discrete}
use borrow.Author.Tests.{ne_eqb}
use lib.Dec.{eqb}
use lib.ListN.{length, get_or, set, replicate, get_or-replicate}
use lib.Seq.{get_or-set_same, get_or-set_other}
use Rattle.rules.specs.Kinds.{is_named_decl}
use Rattle.rules.specs.Table.{at}
use Rattle.rules.specs.Places.{holds_at, first_from}
use Rattle.rules.specs.declared.Record.{Record}
use Rattle.rules.specs.declared.Target.TheVariants.{DeclNamed}
use Rattle.table.proofs.Laws.{up-miss, up-end}
use Rattle.table.proofs.Searches.{and-false}
use Rattle.declarations.specs.Starts.{StartsFrom, Starts}

module _ (rs : List Record) where
  past : (x p : ℕ) → length rs ≤ p → first_from rs (DeclNamed x) p ≡ None
  past x p h = sym (up-end (holds_at rs (DeclNamed x)) p (length rs) p refl h)

  -- no starts: every search starts at place 0
  pub starts_none : Starts rs []
  starts_none = record { skips = λ x. refl }

  -- every start is past the table
  pub starts-past : (starts : List ℕ) → length rs ≤ 1600 → starts ≡ replicate 4093 65535 → StartsFrom rs starts (length rs)
  starts-past starts l e =
      record {
        skips = λ x.
            let z : get_or starts (x % 4093) 0 ≡ 65535 = ap (λ (s : List ℕ). get_or s (x % 4093) 0) e ∙ get_or-replicate 4093 (x % 4093) 65535 0 (mod-lt x (omega arith)) in
            past x (length rs) (omega arith) ∙ sym (past x (get_or starts (x % 4093) 0) (omega arith));
      }

  module _ (starts : List ℕ) (p : ℕ) (l : p < length rs) (w : StartsFrom rs starts (p + 1)) where
    pub start_none : is_named_decl (at rs p).kind ≡ false → StartsFrom rs starts p
    start_none e = record { skips = λ x. up-miss (holds_at rs (DeclNamed x)) p (length rs) p refl l (rw e) ∙ w.skips x }

    pub start-here : (y : ℕ) → y ≡ (at rs p).name → length starts ≡ 4093 → StartsFrom rs (set starts (y % 4093) p) p
    start-here y e n = record { skips = λ x. go x (ℕ_discrete (x % 4093) (y % 4093)) }
      where
        go : (x : ℕ) → Dec (x % 4093 ≡ y % 4093) → first_from rs (DeclNamed x) p ≡ first_from rs (DeclNamed x) (get_or (set starts (y % 4093) p) (x % 4093) 0)
        go x (yes h) =
            let z : get_or (set starts (y % 4093) p) (x % 4093) 0 ≡ p = rw h (get_or-set_same starts (y % 4093) p 0 (let r : y % 4093 < 4093 = mod-lt y (omega arith) in omega arith)) in
            ap (first_from rs (DeclNamed x)) (sym z)
        go x (no h) =
            let d : eqb (at rs p).name x ≡ false = ne_eqb (at rs p).name x (λ q. h (ap (λ (i : ℕ). i % 4093) (sym q ∙ sym e))) in
            let m : holds_at rs (DeclNamed x) p ≡ false = rw d (and-false (is_named_decl (at rs p).kind)) in
            up-miss (holds_at rs (DeclNamed x)) p (length rs) p refl l m ∙ w.skips x ∙ ap (first_from rs (DeclNamed x)) (sym (get_or-set_other starts (y % 4093) (x % 4093) p 0 h))
