-- `repeats::marks::Marks::again` meets its contract. Assumes nothing.
use mathlib.Core.Path.{sym, ◌∙◌}
use Rattle.repeats.proofs.Laws.{not-again}
use Rattle.repeats.proofs.marks.Marks.again.Goals as goal

pub returns-then-not-at : goal.returns-then-not-at
returns-then-not-at c =
    not-again _ _ c.args.self.now.what _ c.args.place (c.args.self.now.known.clear c.args.place (sym c.at.ensures ∙ c.if-not-at.true))
