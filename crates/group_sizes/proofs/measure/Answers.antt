-- `group_sizes::measure` meets its contract: the sizes below d are right. Assumes nothing.
use Rattle.std.proofs.Common.{arith, sym, ◌∙◌}
use Rattle.group_sizes.proofs.Measures.{sized-next, sized-other}
use Rattle.group_sizes.proofs.measure.Goals as goal
use Rattle.group_sizes.proofs.measure.Goals.{then-is_decl, else-is_decl}

pub loop-d-preserved : goal.loop-d-preserved
loop-d-preserved c =
    elim c.if-is_decl.branch [
      | then-is_decl w ↦ rw w.sizes-is (sized-next c.loop-d.invariant c.args.listed.groups_first c.requires.0 (omega arith) (rw (← c.kind.ensures) (sym c.is_decl.ensures ∙ w.if-is_decl.true)) (omega arith) w.size_after-s.ensures)
      | else-is_decl w ↦ rw w.sizes-is (sized-other c.loop-d.invariant (rw (← c.kind.ensures) (sym c.is_decl.ensures ∙ w.if-is_decl.false)))
    ]
