-- `layout::check_layout` meets its contract: the places below p are sound. Assumes nothing.
use Rattle.std.proofs.Common.{Ok, Err}
use native.Mathlib.Omega.{arith}
use borrow.Author.Tests.{eq-eqb, ne_eqb, lt-ltb, le-ltb}
use Prim.Native.Nat.{◌%◌}
use mathlib.Core.Path.{◌≡◌, refl, sym, ap, ◌∙◌}
use mathlib.Core.Bool.{not}
use native.Mathlib.Nat.{sub-zero}
use lib.ListN.{length}
use Rattle.rules.specs.Places.{first}
use Rattle.rules.specs.Layouts.{layout}
use Rattle.rules.specs.Replies.{layout_numbered}
use Rattle.rules.specs.declared.LayoutError.TheVariants.{Uneven, TooLong, Malformed}
use Rattle.table.proofs.Laws.{up-hit, up-miss, up-end}
use Rattle.layout.proofs.Laws.{around-start, around-next}
use Rattle.layout.proofs.check_layout.Goals as goal

pub returns-then-table-ne0 : goal.returns-then-table-ne0
unfolding layout
returns-then-table-ne0 c =
    let t = c.args.table.now in
    let e : Err Uneven ≡ layout t = rw (ne_eqb (length t % 40) 0 (λ z. c.if-table-ne0.true (omega (arith, z)))) in
    record { value = e; numbered = ap layout_numbered e }

pub returns-then-n-gt-MOST_RECORDS : goal.returns-then-n-gt-MOST_RECORDS
unfolding layout
returns-then-n-gt-MOST_RECORDS c =
    let t = c.args.table.now in
    let even = eq-eqb (length t % 40) 0 (omega (arith, c.if-table-ne0.false)) in
    let long = lt-ltb 1600 c.count-n.result (omega (arith, c.if-n-gt-MOST_RECORDS.true)) in
    let e : Err TooLong ≡ layout t = rw (even, ← c.count-n.ensures, long) in
    record { value = e; numbered = ap layout_numbered e }

pub loop-p-init : goal.loop-p-init
loop-p-init c = (refl, around-start _ c.default-a.ensures)

pub sound_at-requires : goal.sound_at-requires
sound_at-requires c =
    (omega (arith, c.count-n.ensures), c.loop-p.invariant.1)

pub returns-then-not-sound_at : goal.returns-then-not-sound_at
unfolding layout
returns-then-not-sound_at c =
    let t = c.args.table.now in
    let even = eq-eqb (length t % 40) 0 (omega (arith, c.if-table-ne0.false)) in
    let fits = le-ltb 1600 c.count-n.result (omega (arith, c.if-n-gt-MOST_RECORDS.false)) in
    let unsound = ap not (sym c.sound_at.ensures ∙ c.if-not-sound_at.true) in
    let e : Err (Malformed c.loop-p.p) ≡ layout t = rw (even, ← c.count-n.ensures, fits, ← up-hit _ _ _ c.loop-p.p c.loop-p.invariant.0 c.loop-p-test.true unsound ∙ ap (first _ 0) (sub-zero _)) in
    record { value = e; numbered = ap layout_numbered e }

pub loop-p-preserved : goal.loop-p-preserved
loop-p-preserved c =
    (up-miss _ _ _ c.loop-p.p c.loop-p.invariant.0 c.loop-p-test.true (ap not (sym c.sound_at.ensures ∙ c.if-not-sound_at.false)), c.step-a.ensures ∙ rw (c.loop-p.invariant.1, c.record.ensures) (around-next _ c.loop-p.p))

pub returns : goal.returns
unfolding layout
returns c =
    let t = c.args.table.now in
    let even = eq-eqb (length t % 40) 0 (omega (arith, c.if-table-ne0.false)) in
    let fits = le-ltb 1600 c.count-n.result (omega (arith, c.if-n-gt-MOST_RECORDS.false)) in
    let e : Ok tt ≡ layout t = rw (even, ← c.count-n.ensures, fits, ← up-end _ _ _ c.loop-p.p c.loop-p.invariant.0 c.loop-p-test.false ∙ ap (first _ 0) (sub-zero _)) in
    record { value = e; numbered = ap layout_numbered e }
