-- `layout::may_stand` meets its contract. Assumes nothing.
use Rattle.layout.proofs.may_stand.Goals as goal

pub returns : goal.returns
returns c =
    rw (c.is_outer_tag.ensures, c.is_field-2.ensures, c.holds_fields.ensures, c.is_field.ensures, c.constraint_stands.ensures, c.is_decl.ensures)
