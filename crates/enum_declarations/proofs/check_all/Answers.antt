-- `enum_declarations::check_all` meets its contract: after d turns the faults of the places below d are noted. Assumes nothing.
use borrow.Author.Rules.{rules}
use native.Mathlib.Omega.{arith}
use mathlib.Core.Path.{refl, ◌∙◌}
use Rattle.rules.specs.EnumDeclarations.{pass4}
use Rattle.faults.specs.Notes.{no_faults}
use Rattle.repeats.proofs.marks.Laws.{marked-all}
use Rattle.faults.proofs.Laws.{noted-start, noted-place, noted-end, noted-logged, each-total}
use Rattle.enum_declarations.proofs.Laws.{place-few}
use Rattle.enum_declarations.proofs.check_all.Goals as goal

pub mark-requires : goal.mark-requires
mark-requires c = (search rules, marked-all _ _ 1600)

pub mark-requires-2 : goal.mark-requires-2
mark-requires-2 c = (search rules, marked-all _ _ 1600)

pub loop-d-init : goal.loop-d-init
loop-d-init c = rw c.no_faults-tally.ensures (noted-start _ _)

pub note_place-tally-requires : goal.note_place-tally-requires
note_place-tally-requires c =
    let total = each-total _ 3000000 c.loop-d.d no_faults _ (place-few c.args.table.records.now c.args.table.few) c.loop-d.invariant in
    (search rules, c.args.table.few, omega arith)

pub loop-d-preserved : goal.loop-d-preserved
loop-d-preserved c =
    noted-place _ c.loop-d.d _ _ c.loop-d.invariant refl c.note_place-tally.ensures

pub returns : goal.returns
unfolding pass4
returns c =
    noted-end _ _ c.loop-d.invariant (search rules) c.loop-d-test.false refl ∙ noted-logged _ _
