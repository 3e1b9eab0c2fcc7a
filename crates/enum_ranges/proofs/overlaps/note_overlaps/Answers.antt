-- `enum_ranges::overlaps::note_overlaps` meets its contract: the faults of the pairs that were passed are noted. Assumes nothing.
use borrow.Author.Rules.{rules}
use native.Mathlib.Omega.{arith}
use mathlib.Core.Path.{◌≡◌, refl, ◌∙◌}
use Rattle.std.proofs.Common.{add-zero}
use Prim.Native.Nat.{◌+◌, ◌-◌}
use lib.ListN.{length, get_or}
use Rattle.std.proofs.lemmas.Iterator.{window_more}
use Rattle.std.specs.Slice.Iter.{windows_rest}
use Rattle.rules.specs.EnumDeclarations.{overlaps}
use Rattle.faults.proofs.Laws.{noted-start, noted-place, noted-end, each-total}
use Rattle.enum_ranges.proofs.overlaps.Laws.{overlap-few}
use Rattle.enum_ranges.proofs.overlaps.note_overlaps.Goals as goal

pub loop-pair-init : goal.loop-pair-init
loop-pair-init c =
    let rest : windows_rest c.into_iter-pair-iterator.result ≡ c.args.places.now = search rules in
    let none : length c.args.places.now - length (windows_rest c.into_iter-pair-iterator.result) ≡ 0 = rw rest (omega arith) in
    (search rules, rw rest (omega arith), rw none rest, omega arith, rw none (noted-start _ _))

pub note_found-kept-requires : goal.note_found-kept-requires
note_found-kept-requires c =
    omega (arith, each-total _ 1 (length c.args.places.now - length (windows_rest c.loop-pair.pair-iterator)) _ _ (λ i. overlap-few c.args.table.now (get_or c.args.places.now i 0) (get_or c.args.places.now (i + 1) 0)) c.loop-pair.invariant.4)

pub loop-pair-preserved : goal.loop-pair-preserved
loop-pair-preserved c =
    let h = window_more c.args.places.now c.loop-pair.pair-iterator c.next.new.self _ _ c.in-Some.is c.next.ensures.steps (search rules) (search rules) (search rules) in
    let left = rw add-zero at (h.3 0 0 (search rules)) in
    let right = h.3 1 0 (search rules) in
    let more : length c.args.places.now - length (windows_rest c.next.new.self) ≡ length c.args.places.now - length (windows_rest c.loop-pair.pair-iterator) + 1 = omega arith in
    (c.next.ensures.steps.0 ∙ c.loop-pair.invariant.0, omega arith, h.1, omega arith, rw more (noted-place _ _ _ _ c.loop-pair.invariant.4 (rw (left, right) at c.overlap.ensures) c.note_found-kept.ensures))

pub returns : goal.returns
unfolding overlaps
returns c =
    let none = rw c.in-None.is at c.next.ensures.steps in
    noted-end _ _ c.loop-pair.invariant.4 c.loop-pair.invariant.3 (omega (arith, none.1.0)) refl
