-- `field_identifiers::at_place` meets its contract. Assumes nothing.
use Rattle.std.proofs.Common.{rules, ◌∙◌}
use Rattle.field_identifiers.proofs.Laws.{passed_over, unnamed, looked_at}
use Rattle.field_identifiers.proofs.at_place.Goals as goal

pub returns-then-not-at : goal.returns-then-not-at
returns-then-not-at c = passed_over _ _ _ (rw c.requires at c.args.marks.now.known) (search rules)

pub returns-then-not-is_named_field : goal.returns-then-not-is_named_field
returns-then-not-is_named_field c = unnamed c.args.marks.now.table.now c.args.place (search rules)

pub returns : goal.returns
returns c =
    rw c.at-r.ensures at c.again.ensures ∙ looked_at c.args.marks.now.table.now c.args.place (search rules)
