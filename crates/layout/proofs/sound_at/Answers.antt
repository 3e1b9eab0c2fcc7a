-- `layout::sound_at` meets its contract. Assumes nothing.
use mathlib.Core.Path.{sym, ◌∙◌}
use Rattle.rules.specs.Layouts.{sound_at}
use Rattle.layout.specs.Surroundings.{around}
use Rattle.layout.proofs.sound_at.Goals as goal

pub returns-then-not-spare_zero : goal.returns-then-not-spare_zero
unfolding sound_at
returns-then-not-spare_zero c =
    rw (← c.base-i.ensures.0, sym c.spare_zero.ensures ∙ c.if-not-spare_zero.true)

pub returns : goal.returns
unfolding sound_at around
returns c =
    rw (c.may_stand.ensures, c.keeps_row.ensures, ← c.base-i.ensures.0, sym c.spare_zero.ensures ∙ c.if-not-spare_zero.false, c.record-r.ensures, c.requires.1)
