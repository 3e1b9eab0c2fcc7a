-- `field_identifiers::check_field_identifiers` meets its contract: after place turns the faults of the places below place are noted.
-- Assumes nothing.
use Rattle.std.proofs.Common.{rules, arith, refl, ◌∙◌}
use mathlib.Core.Path.{ap}
use Rattle.std.proofs.lemmas.Grind.{common_steps}
use Rattle.rules.specs.FieldIdentifiers.{pass3_at, pass3}
use Rattle.faults.proofs.Laws.{noted-start, noted-place, noted-end, noted-logged, total-after, findings-few}
use Rattle.field_identifiers.proofs.check_field_identifiers.Goals as goal

pub loop-place-init : goal.loop-place-init
loop-place-init c = grind (arith, noted-start)

pub loop-place-preserved : goal.loop-place-preserved
loop-place-preserved c =
    (noted-place _ c.loop-place.place _ _ c.loop-place.invariant.0 (c.at_place.ensures ∙ ap (pass3_at c.args.marks.now.table.now) (grind (arith, common_steps))) c.note_found-tally.ensures, omega (arith, total-after _ _ _ c.note_found-tally.ensures, findings-few c.at_place.result))

pub returns : goal.returns
unfolding pass3
returns c =
    noted-end _ _ c.loop-place.invariant.0 (search rules) c.loop-place-test.false refl ∙ noted-logged _ _
