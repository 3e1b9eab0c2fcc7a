-- `declarations::starts::fill` meets its contract: the starts are those from the place on. Assumes nothing.
use native.Mathlib.Omega.{arith}
use Prim.Native.Nat.{ℕ, ◌+◌, ◌-◌}
use mathlib.Core.Path.{◌≡◌, ap, ◌∙◌}
use lib.ListN.{length, length-replicate}
use Rattle.declarations.proofs.starts.Laws.{starts-past}
use Rattle.declarations.proofs.starts.fill.Goals as goal

pub loop-place-init : goal.loop-place-init
loop-place-init c = starts-past _ _ c.args.table.few c.requires

pub set_start-requires : goal.set_start-requires
set_start-requires c =
    let e : c.loop-place.place - 1 + 1 ≡ c.loop-place.place = omega arith in
    (omega arith, c.loop-place.auto.starts ∙ ap length c.requires ∙ length-replicate {A = ℕ} 4093 65535, rw e c.loop-place.invariant)

pub returns : goal.returns
returns c =
    let z : c.loop-place.place ≡ 0 = omega arith in
    rw z at c.loop-place.invariant
