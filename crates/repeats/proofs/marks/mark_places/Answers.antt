-- `repeats::marks::mark_places` meets its contract. Assumes nothing.
use borrow.Author.Rules.{rules}
use mathlib.Core.Path.{sym, ◌∙◌}
use Prim.Native.Nat.{ℕ, ◌%◌, ◌<◌}
use lib.ListN.{length}
use lib.Seq.{get_or-set_same}
use Rattle.rules.specs.Table.{at}
use Rattle.repeats.proofs.marks.Laws.{stamped-start, stamped-decl, stamped-other, stamped-one, new-value, set-kept, marked-one}
use Rattle.repeats.proofs.marks.mark_places.Goals as goal
use Rattle.repeats.proofs.marks.mark_places.Goals.{then-is_decl, else-is_decl, then-seen-h, else-seen-h}

pub loop-place-init : goal.loop-place-init
loop-place-init c = (c.requires.2, stamped-start _ _ _ _)

pub loop-place-preserved-then-not-selects : goal.loop-place-preserved-then-not-selects
unfolding at
loop-place-preserved-then-not-selects c = (
  c.loop-place.invariant.0,
  elim c.if-is_decl.branch [
    | then-is_decl w ↦ rw w.stamp-is (stamped-decl _ _ _ _ _ (sym c.is_decl.ensures ∙ w.if-is_decl.true))
    | else-is_decl w ↦
        rw w.stamp-is (stamped-other _ _ _ _ _ c.loop-place.invariant.1 (sym c.is_decl.ensures ∙ w.if-is_decl.false) (sym c.selects.ensures ∙ c.if-not-selects.true))
  ],
)

pub loop-place-preserved : goal.loop-place-preserved
unfolding at
loop-place-preserved c =
    let h : ℕ = c.value.result % 4093 in
    let fits : h < length c.loop-place.seen = search rules in
    elim c.if-seen-h.branch [
      | then-seen-h w ↦
          rw (w.seen-is, w.marks-is) (marked-one _ _ _ _ c.loop-place.invariant.0 (new-value _ _ _ _ _ c.loop-place.invariant.1 (rw (← c.value.ensures) w.if-seen-h.true)), stamped-one _ _ _ c.loop-place.seen _ _ c.loop-place.invariant.1 (sym c.selects.ensures ∙ c.if-not-selects.false) (rw (← c.value.ensures) (get_or-set_same c.loop-place.seen h _ 0 fits)) (λ j e. set-kept c.loop-place.seen h j _ fits e))
      | else-seen-h w ↦
          rw (w.seen-is, w.marks-is) (c.loop-place.invariant.0, stamped-one _ _ _ _ _ _ c.loop-place.invariant.1 (sym c.selects.ensures ∙ c.if-not-selects.false) (rw (← c.value.ensures) w.if-seen-h.false) (λ j h. h))
    ]
