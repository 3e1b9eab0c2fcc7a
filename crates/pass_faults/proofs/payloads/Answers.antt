-- `pass_faults::payloads` meets its contract. Assumes nothing.
use Rattle.std.proofs.Common.{rules, arith, refl, ◌||◌}
use Rattle.std.proofs.lemmas.Grind.{common_steps}
use Rattle.rules.specs.Kinds.{is_payload, is_named_decl}
use Rattle.rules.specs.Places.{first}
use Rattle.rules.specs.PayloadFields.{pass7_at, pass7}
use Rattle.pass_faults.specs.Listed.{is_among}
use Rattle.pass_faults.proofs.Laws.{lists, only_first}
use Rattle.pass_faults.proofs.payloads.Goals as goal

pub returns : goal.returns
unfolding pass7 pass7_at first is_among
returns c =
    c.run_places.ensures (pass7_at _) (lists _ _ (λ k. is_payload k || is_named_decl k) _ refl (λ k e. grind (arith, common_steps)) (λ p r e. search (rules, only_first)) (λ p e. grind (arith, common_steps)))
