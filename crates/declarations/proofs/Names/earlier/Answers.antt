-- `declarations::Names::earlier` meets its contract. Assumes nothing.
use borrow.Author.Tests.{eqb-true, ltb-true}
use mathlib.Core.Path.{sym, ap, ◌∙◌}
use Rattle.rules.specs.declared.Record.{Record}
use Rattle.table.proofs.Searches.{and-true}
use Rattle.declarations.proofs.Laws.{none-earlier}
use Rattle.declarations.proofs.Names.earlier.Goals as goal

pub returns-then-start-place : goal.returns-then-start-place
returns-then-start-place c =
    let b = and-true _ _ c.if-start-place.true in
    sym (rw (← ap (λ (r : Record). r.name) c.at-name.ensures) (none-earlier _ c.args.self.now.known _ _ (ltb-true _ _ b.1) (sym (eqb-true _ _ b.0) ∙ c.start.ensures)))
