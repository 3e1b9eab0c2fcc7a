-- Laws of pass 4: how many faults there can be, and what a turn of each loop adds. Assumes nothing.
use Rattle.std.proofs.Common.{ℕ}
use Prim.Native.Nat.{ℕ, zero, suc, ◌+◌, ◌-◌, ◌*◌, ◌<◌, ◌≤◌}
use mathlib.Core.Path.{◌≡◌, refl, sym, ◌∙◌}
use mathlib.Core.List.{List, []}
use native.Mathlib.Omega.{arith}
use Rattle.std.proofs.lemmas.Grind.{common_steps}
use native.Mathlib.Nat.{le_trans}
use borrow.Author.Tests.{ne_eqb, eq-eqb}
use lib.Dec.{eqb}
use mathlib.Core.Bool.{false}
use Rattle.table.proofs.Searches.{false-true}
use Rattle.rules.specs.Kinds.{is}
use Rattle.std.proofs.lemmas.List.Folds.{list_any_at}
use Rattle.std.specs.List.{list_any}
use lib.ListN.{length, get_or}
use Rattle.rules.specs.Table.{at, blank}
use Rattle.rules.specs.Places.{each, holds_at, member_count}
use Rattle.rules.specs.EnumDeclarations.{tag_faults, tags_faults, range_at, ranges, overlap, overlaps, enum_faults, pass4_at, pass4}
use Rattle.rules.specs.declared.Record.{Record}
use Rattle.rules.specs.declared.Target.TheVariants.{Decl}
use Rattle.table.proofs.Laws.{each-few, first-in, if-few, when-few}
use Rattle.enum_ranges.proofs.Sorts.{length-sorted}
use Rattle.enum_ranges.proofs.overlaps.Laws.{overlap-few}
use Rattle.enum_tags.proofs.Laws.{tag-few}

ranges-few : (rs : List Record) (d n : ℕ) → length (ranges rs d n) ≤ n
unfolding ranges
ranges-few rs d n = omega (arith, each-few (λ i. range_at rs (d + 1 + i)) 1 n (λ i. when-few (eqb (at rs (d + 1 + i)).kind 41) (d + 1 + i)))

overlaps-few : (rs : List Record) (ps : List ℕ) → length (overlaps rs ps) ≤ length ps
unfolding overlaps
overlaps-few rs ps = omega (arith, each-few (λ j. overlap rs (get_or ps j 0) (get_or ps (j + 1) 0)) 1 (length ps - 1) (λ j. overlap-few rs (get_or ps j 0) (get_or ps (j + 1) 0)))

pub tags-few : (rs : List Record) (d n : ℕ) → n ≤ 1600 → length (tags_faults rs d n) ≤ 1603 * n
unfolding tags_faults
tags-few rs d n h = each-few (λ i. tag_faults rs d n (d + 1 + i)) 1603 n (λ i. tag-few rs d n (d + 1 + i) h)

enum-few : (rs : List Record) (d n : ℕ) → n ≤ 1600 → length (enum_faults rs d n) ≤ 3000000
unfolding enum_faults
enum-few rs d n h =
    grind (arith, common_steps, tags-few, overlaps-few, length-sorted, ranges-few)

count-few : (rs : List Record) (d : ℕ) → member_count rs d ≤ length rs
unfolding member_count
count-few rs d = let h = first-in (holds_at rs Decl) (length rs) (d + 1) in grind (arith, common_steps)

pub place-few : (rs : List Record) → length rs ≤ 1600 → (d : ℕ) → length (pass4_at rs d) ≤ 3000000
unfolding pass4_at
place-few rs h d = if-few (eqb (at rs d).kind 3) _ _ 3000000 (enum-few rs d (member_count rs d) (le_trans (count-few rs d) h)) (omega arith)

-- a table without an enum
none_below : (rs : List Record) (n : ℕ) → ((d : ℕ) → d < n → (at rs d).kind ≡ 3 → ⊥) → each (pass4_at rs) n ≡ []
unfolding each pass4_at
none_below rs zero h = refl
none_below rs (suc n) h = rw (none_below rs n (λ d l. h d (omega arith)), ne_eqb _ _ (h n (omega arith)))

pub none-at-all : (rs : List Record) → list_any (is 3) rs ≡ false → pass4 rs ≡ []
unfolding pass4 at
none-at-all rs e = none_below rs (length rs) (λ d h k. false-true (sym e ∙ list_any_at (is 3) rs d blank h (eq-eqb _ _ k)))
