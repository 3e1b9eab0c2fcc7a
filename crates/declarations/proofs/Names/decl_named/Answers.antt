-- `declarations::Names::decl_named` meets its contract. Assumes nothing.
use mathlib.Core.Path.{◌∙◌}
use Rattle.declarations.proofs.Laws.{named-from}
use Rattle.declarations.proofs.Names.decl_named.Goals as goal

pub returns : goal.returns
returns c = c.first.ensures ∙ named-from _ c.args.self.now.known _ _ c.start.ensures
