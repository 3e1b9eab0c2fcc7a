-- `pass_faults::run_places` meets its contract: the faults of the places below this one are noted. Assumes nothing.
use Rattle.std.proofs.Common.{arith, sym, refl, ◌∙◌, []}
use Rattle.rules.specs.Table.{at}
use Rattle.faults.proofs.Laws.{noted-start, noted-none, noted-place, noted-then, noted-end, noted-logged, total-after, findings-few}
use Rattle.pass_faults.proofs.run_places.Goals as goal
use Rattle.pass_faults.proofs.run_places.Goals.{then-is_among, else-is_among}

pub loop-place-init : goal.loop-place-init
loop-place-init g c = (λ listed k. grind (arith, noted-start), grind arith)

pub note_found-tally-requires-then-is_among : goal.note_found-tally-requires-then-is_among
note_found-tally-requires-then-is_among g c =
    omega (arith, total-after _ _ _ c.note_found-tally.ensures, findings-few c.found_at-first.result.0)

pub loop-place-preserved : goal.loop-place-preserved
unfolding at
loop-place-preserved g c =
    elim c.if-is_among.branch [
      | then-is_among w ↦
          let two = noted-then _ _ _ w.note_found-tally.ensures w.note_found-tally-then-is_among.ensures in
          rw (w.tally-is, w.buffer-is)
          (λ listed k. noted-place listed c.loop-place.place _ _ (c.loop-place.invariant.0 listed k) (k.found _ _ w.found_at-first.ensures) two, omega (arith, total-after _ _ _ w.note_found-tally.ensures, total-after _ _ _ w.note_found-tally-then-is_among.ensures, findings-few w.found_at-first.result.0, findings-few w.found_at-first.result.1))
      | else-is_among w ↦
          rw (w.tally-is, w.buffer-is)
          (λ listed k. noted-place listed c.loop-place.place _ [] (c.loop-place.invariant.0 listed k) (sym (k.passed _ (sym c.is_among.ensures ∙ w.if-is_among.false))) (noted-none _), omega arith)
    ]

pub returns : goal.returns
returns g c listed k =
    noted-end listed _ (c.loop-place.invariant.0 listed k) c.loop-place.auto.place-end c.loop-place-test.false refl ∙ noted-logged _ _
