-- `layout::step` meets its contract. Assumes nothing.
use Rattle.layout.specs.Surroundings.{after}
use mathlib.Core.Path.{sym, ◌∙◌}
use Rattle.layout.proofs.step.Goals as goal

pub returns-then-is_decl : goal.returns-then-is_decl
unfolding after
returns-then-is_decl c = rw (sym c.is_decl.ensures ∙ c.if-is_decl.true)

pub returns-else-is_decl : goal.returns-else-is_decl
unfolding after
returns-else-is_decl c = rw (sym c.is_decl.ensures ∙ c.if-is_decl.false)
