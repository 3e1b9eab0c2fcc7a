-- `enum_declarations::note_enum` meets its contract. Assumes nothing.
use native.Mathlib.Omega.{arith}
use Rattle.rules.specs.EnumDeclarations.{tags_faults, enum_faults}
use Rattle.faults.proofs.Laws.{noted-then, total-after}
use Rattle.enum_declarations.proofs.Laws.{tags-few}
use Rattle.enum_declarations.proofs.note_enum.Goals as goal

pub note_overlaps-requires : goal.note_overlaps-requires
note_overlaps-requires c =
    let rs = c.args.marked.now.table.now in
    let after = total-after _ _ (tags_faults rs c.args.decl c.args.count) c.note_tags-kept.ensures in
    let few = tags-few rs c.args.decl c.args.count (omega arith) in
    (omega arith, omega arith)

pub returns : goal.returns
unfolding enum_faults
returns c =
    rw (← c.arrange-ranges.ensures.4) (noted-then _ _ _ c.note_tags-kept.ensures c.note_overlaps.ensures)
