-- `search::first` meets its contract: no place from the given one up to p is what is looked for. Assumes nothing.
use Prim.Native.Nat.{ℕ}
use mathlib.Core.Bool.{Bool}
use mathlib.Core.Path.{◌≡◌, sym, ◌∙◌}
use native.Mathlib.Omega.{arith}
use Rattle.rules.specs.Places.{holds_at}
use Rattle.table.proofs.Laws.{up-hit, up-miss, up-end}
use Rattle.search.proofs.first.Goals as goal

-- the place that is asked is p, however it is written
here : (f : ℕ → Bool) {asked p : ℕ} {b : Bool} → asked ≡ p → f asked ≡ b → f p ≡ b
here f e h = rw (← e) h

pub returns-then-holds_at : goal.returns-then-holds_at
returns-then-holds_at c =
    let l = c.loop-p in
    up-hit _ _ _ l.p l.invariant c.loop-p-test.true (here (holds_at c.args.table.now c.args.target) (omega arith) (sym c.holds_at.ensures ∙ c.if-holds_at.true))

pub loop-p-preserved : goal.loop-p-preserved
loop-p-preserved c =
    let l = c.loop-p in
    up-miss _ _ _ l.p l.invariant c.loop-p-test.true (here (holds_at c.args.table.now c.args.target) (omega arith) (sym c.holds_at.ensures ∙ c.if-holds_at.false))

pub returns : goal.returns
returns c = let l = c.loop-p in up-end _ _ _ l.p l.invariant c.loop-p-test.false
