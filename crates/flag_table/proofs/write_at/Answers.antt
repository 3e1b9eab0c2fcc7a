-- The entries that an iterator gave are all that were left of it.
use native.Mathlib.Omega.{arith}
use Rattle.std.proofs.lemmas.Grind.{common_steps}
use Rattle.rules.specs.DesugarFlags.{entries_from}
use Rattle.flag_sizes.proofs.Laws.{own_from}
use Rattle.flag_table.proofs.Writing.{what_becomes, drained}
use Rattle.flag_table.proofs.write_at.Goals as goal

pub returns-then-counts-place-eq0 : goal.returns-then-counts-place-eq0
returns-then-counts-place-eq0 c =
    let own = drained (λ s. own_from s.table.now s.place) _ _ c.append_all.ensures.1 in
    grind (arith, common_steps, what_becomes, own)

pub returns : goal.returns
returns c =
    let made = drained (λ s. entries_from s.table.now s.flag s.place) _ _ c.append_all-2.ensures.1 in
    grind (arith, common_steps, what_becomes, made)
