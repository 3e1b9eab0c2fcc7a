-- `search::nearest` meets its contract: no place from q up to the given one is what is looked for. Assumes nothing.
use mathlib.Core.Path.{sym, ◌∙◌}
use Rattle.table.proofs.Laws.{down-hit, down-miss, down-end}
use Rattle.search.proofs.nearest.Goals as goal

pub returns-then-holds_at : goal.returns-then-holds_at
returns-then-holds_at c =
    let l = c.loop-q in
    down-hit _ _ l.q l.invariant c.loop-q-test.true (sym c.holds_at.ensures ∙ c.if-holds_at.true)

pub loop-q-preserved : goal.loop-q-preserved
loop-q-preserved c =
    let l = c.loop-q in
    down-miss _ _ l.q l.invariant c.loop-q-test.true (sym c.holds_at.ensures ∙ c.if-holds_at.false)

pub returns : goal.returns
returns c = down-end _ _ c.loop-q.q c.loop-q.invariant c.loop-q-test.false
