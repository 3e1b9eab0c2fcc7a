-- `enum_tags::note_tag` meets its contract: each arm is a case of the definition. Assumes nothing.
use borrow.Author.Rules.{rules}
use native.Mathlib.Omega.{arith}
use borrow.Author.Tests.{ne_eqb}
use Rattle.rules.specs.EnumDeclarations.{value_faults, tag_faults}
use Rattle.faults.proofs.Laws.{noted-none, noted-then, total-after}
use Rattle.enum_tags.proofs.Laws.{value-few}
use Rattle.enum_tags.proofs.note_tag.Goals as goal

pub note_held-requires : goal.note_held-requires
note_held-requires c =
    let rs = c.args.tag.tags.now.marked.table.now in
    let after = total-after _ _ (value_faults rs 0 c.scalar_max-most.result c.args.tag.place) c.note_value-kept.ensures in
    omega (arith, value-few rs 0 c.scalar_max-most.result c.args.tag.place)

pub returns-in-40 : goal.returns-in-40
unfolding tag_faults
returns-in-40 c =
    rw (← c.kind.ensures, c.in-40.is, ← c.at.ensures, ← c.scalar_max-most.ensures) (noted-then _ _ _ c.note_value-kept.ensures c.note_held.ensures)

pub returns-in_default : goal.returns-in_default
unfolding tag_faults
returns-in_default c =
    rw (← c.kind.ensures, ne_eqb c.kind.result 40 (search rules), ne_eqb c.kind.result 41 (search rules), ne_eqb c.kind.result 42 (search rules), ne_eqb c.kind.result 43 (search rules)) (noted-none _)
