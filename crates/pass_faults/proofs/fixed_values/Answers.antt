-- `pass_faults::fixed_values` meets its contract. Assumes nothing.
use Rattle.std.proofs.Common.{rules, arith, refl, ◌||◌, eqb}
use Rattle.std.proofs.lemmas.Grind.{common_steps}
use Rattle.rules.specs.Places.{first}
use Rattle.rules.specs.FixedFields.{pass6_at, pass6}
use Rattle.pass_faults.specs.Listed.{is_among}
use Rattle.pass_faults.proofs.Laws.{lists, only_first}
use Rattle.pass_faults.proofs.fixed_values.Goals as goal

pub returns : goal.returns
unfolding pass6 pass6_at first is_among
returns c =
    c.run_places.ensures (pass6_at _) (lists _ _ (λ k. eqb k 27 || eqb k 28) _ refl (λ k e. grind (arith, common_steps)) (λ p r e. search (rules, only_first)) (λ p e. grind (arith, common_steps)))
