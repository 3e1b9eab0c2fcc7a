-- `declarations::starts::set_start` meets its contract. Assumes nothing.
use mathlib.Core.Path.{sym, ap, ◌∙◌}
use Rattle.rules.specs.declared.Record.{Record}
use Rattle.declarations.proofs.starts.Laws.{start_none, start-here}
use Rattle.declarations.proofs.starts.set_start.Goals as goal

pub returns-then-is_named_decl : goal.returns-then-is_named_decl
returns-then-is_named_decl c =
    rw c.from-h.ensures (start-here _ _ _ c.requires.0 c.requires.2 _ (ap (λ (r : Record). r.name) c.at-r.ensures) c.requires.1)

pub returns-else-is_named_decl : goal.returns-else-is_named_decl
returns-else-is_named_decl c =
    start_none _ _ _ c.requires.0 c.requires.2 (rw (← ap (λ (r : Record). r.kind) c.at-r.ensures) (sym c.is_named_decl.ensures ∙ c.if-is_named_decl.false))
