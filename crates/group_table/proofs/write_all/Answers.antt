-- `group_table::write_all` meets its contract: what the records below d become is written. Assumes nothing.
use Rattle.std.proofs.Common.{arith, length, refl, sym, ◌+◌, ◌∙◌}
use Rattle.std.proofs.lemmas.Grind.{common_steps}
use Rattle.rules.specs.Table.{at}
use Rattle.rules.specs.Places.{each}
use Rattle.rules.specs.InlineGroups.{inlined}
use Rattle.group_sizes.specs.Sizes.{total_size}
use Rattle.group_table.specs.Outputs.{added_all}
use Rattle.group_sizes.proofs.Measures.{total-next}
use Rattle.group_table.proofs.Loop.{count-one, inlined-other, inlined-next}
use Rattle.group_table.proofs.Totals.{total-rises, kept-decl}
use Rattle.group_table.proofs.write_all.Goals as goal
use Rattle.group_table.proofs.write_all.Goals.{then-is_kept, else-is_kept}

pub loop-d-init : goal.loop-d-init
unfolding added_all each total_size
loop-d-init c = (refl, refl, c.new-env.ensures, refl)

pub add-first-requires : goal.add-first-requires
unfolding at
add-first-requires c =
    let g = c.args.groups.now in
    let n = total-next g.sizes.now g.table.records.now c.loop-d.d in
    let r = total-rises g.sizes.now g.table.records.now (c.loop-d.d + 1) (length g.table.records.now) in
    grind (arith, common_steps)

pub expand-s-requires : goal.expand-s-requires
unfolding at
expand-s-requires c =
    let g = c.args.groups.now in
    let n = total-next g.sizes.now g.table.records.now c.loop-d.d in
    let r = total-rises g.sizes.now g.table.records.now (c.loop-d.d + 1) (length g.table.records.now) in
    let o = count-one _ _ c.add-first.ensures in
    record {
      decl = (omega arith, kept-decl (at g.table.records.now c.loop-d.d).kind (sym c.is_kept.ensures ∙ c.if-is_kept.true));
      spare = λ e h q. rw c.loop-d.invariant.2 (omega (arith, g.table.few));
      room = grind (arith, common_steps);
      wide = grind (arith, common_steps);
    }

pub loop-d-preserved : goal.loop-d-preserved
unfolding at
loop-d-preserved c =
    let g = c.args.groups.now in
    let v = c.loop-d.invariant in
    let n = total-next g.sizes.now g.table.records.now c.loop-d.d in
    elim c.if-is_kept.branch [
      | then-is_kept w ↦
          let i = sym c.is_kept.ensures ∙ w.if-is_kept.true in
          let p = w.add-first.ensures in
          let x = w.expand-s.ensures in
          rw (w.env-is, w.out-is, w.s-is)
          (x.made (length g.table.records.now) (omega arith) ∙ rw (p, v.0, v.2) (sym (inlined-next g.table.records.now c.loop-d.d _ i)), omega (arith, x.counted, count-one _ _ p, rw i at n), x.kept ∙ v.2, w.expand-s.auto.out ∙ w.add-first.auto.out ∙ v.3)
      | else-is_kept w ↦
          let i = sym c.is_kept.ensures ∙ w.if-is_kept.false in
          rw (w.env-is, w.out-is, w.s-is) (v.0 ∙ rw (inlined-other g.table.records.now c.loop-d.d i), omega (arith, rw i at n), v.2, v.3)
    ]

pub returns : goal.returns
unfolding inlined
returns c = grind (arith, common_steps)
