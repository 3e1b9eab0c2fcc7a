-- `analyzer::analyze` meets its contract: a row of the layout, or the passes. Assumes nothing.
use mathlib.Core.Path.{sym, ◌∙◌}
use Rattle.rules.specs.Replies.{by_layout}
use Rattle.analyzer.proofs.Laws.{layout-answer, sound-few}
use Rattle.analyzer.proofs.analyze.Goals as goal

pub check_table-requires : goal.check_table-requires
check_table-requires c = sound-few c.args.input.now c.check_layout.ensures.value c.in-Ok.is

pub returns-in-Ok : goal.returns-in-Ok
unfolding by_layout
returns-in-Ok c = c.check_table.ensures ∙ layout-answer c.args.input.now c.args.table.now c.args.faults.now (sym c.in-Ok.is ∙ c.check_layout.ensures.value)

pub returns-in-Err : goal.returns-in-Err
unfolding by_layout
returns-in-Err c =
    rw c.from.ensures (layout-answer c.args.input.now c.args.table.now c.args.faults.now (sym c.in-Err.is ∙ c.check_layout.ensures.value))
