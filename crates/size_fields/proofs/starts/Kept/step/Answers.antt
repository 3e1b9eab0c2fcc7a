-- `size_fields::starts::Kept::step` meets its contract. Assumes nothing.
use Rattle.std.proofs.Common.{rules, sym, ◌∙◌}
use Rattle.rules.specs.Table.{at}
use Rattle.size_fields.proofs.starts.Laws.{kept-other}
use Rattle.size_fields.proofs.starts.Kept.step.Goals as goal

pub returns-else-is_decl : goal.returns-else-is_decl
unfolding at
returns-else-is_decl c =
    (c.requires.3, rw (c.from.ensures, c.name_of.ensures) (kept-other _ _ _ _ c.requires.0 c.requires.2 (search rules) (sym c.is_decl.ensures ∙ c.if-is_decl.false)))
