-- `pass_faults::sizes` meets its contract. Assumes nothing.
use Rattle.std.proofs.Common.{rules, arith, refl}
use Rattle.std.proofs.lemmas.Grind.{common_steps}
use Rattle.rules.specs.Kinds.{is_size}
use Rattle.rules.specs.Places.{first}
use Rattle.rules.specs.SizeFields.{size_again, size_target, pass5_at, pass5}
use Rattle.pass_faults.specs.Listed.{is_among}
use Rattle.pass_faults.proofs.Laws.{lists}
use Rattle.pass_faults.proofs.sizes.Goals as goal

pub returns : goal.returns
unfolding pass5 pass5_at size_again size_target first is_among
returns c =
    c.run_places.ensures (pass5_at _) (lists _ _ (is_size) _ refl (λ k e. grind (arith, common_steps)) (λ p r e. search rules) (λ p e. grind (arith, common_steps)))
