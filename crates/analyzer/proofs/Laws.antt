-- Laws of the rows of the layout. Assumes nothing.
use Rattle.std.proofs.Common.{Result, Ok, Err}
use Prim.Native.Nat.{ℕ, ◌%◌, ◌≤◌}
use mathlib.Core.Path.{◌≡◌, refl, sym, ap, ◌∙◌}
use mathlib.Core.List.{List}
use mathlib.Core.Bool.{Bool, true, false, not}
use borrow.Author.Tests.{ltb-false}
use native.Mathlib.Omega.{arith}
use lib.ListN.{length}
use lib.Dec.{eqb, ltb}
use Rattle.std.specs.Prelude.{if◌then◌else◌}
use Rattle.rules.specs.Table.{decode, record_length, most_records}
use Rattle.rules.specs.Places.{first}
use Rattle.rules.specs.Layouts.{layout, unsound_at, if_found}
use Rattle.rules.specs.Replies.{by_layout, answer, layout_numbered, numbered}
use Rattle.rules.specs.declared.LayoutError.{LayoutError}
use Rattle.rules.specs.declared.LayoutError.TheVariants as layouts

pub layout-answer : (i t f : List ℕ) {l : Result (Unit {0}) LayoutError} → l ≡ layout i → by_layout i t f l ≡ answer i t f
unfolding answer
layout-answer i t f e = ap (by_layout i t f) e

-- a sound table has at most 1,600 records
pub sound-few : (i : List ℕ) {l : Result (Unit {0}) LayoutError} → l ≡ layout i → l ≡ Ok tt → length (decode i) ≤ 1600
unfolding layout layout_numbered numbered
sound-few i {l} e h = go (not (eqb (length i % record_length) 0)) (ltb most_records (length (decode i))) refl (sym e ∙ h)
  where
    go : (a b : Bool) → ltb most_records (length (decode i)) ≡ b
        → (if a then Err layouts.Uneven else if b then Err layouts.TooLong else if_found (first (unsound_at i) 0 (length (decode i)))) ≡ Ok tt → length (decode i) ≤ 1600
    go true b x k = let z : ◌≡◌ {A = ℕ} 1 0 = ap (λ (y : Result (Unit {0}) LayoutError). (layout_numbered y).row) k in absurd (omega arith)
    go false true x k = let z : ◌≡◌ {A = ℕ} 2 0 = ap (λ (y : Result (Unit {0}) LayoutError). (layout_numbered y).row) k in absurd (omega arith)
    go false false x k = ltb-false 1600 (length (decode i)) x
