-- `pass_faults::scopes` meets its contract. Assumes nothing.
use Rattle.std.proofs.Common.{rules, arith, refl}
use Rattle.std.proofs.lemmas.Grind.{common_steps}
use Rattle.rules.specs.Kinds.{is_named_decl}
use Rattle.rules.specs.Places.{first}
use Rattle.rules.specs.Scopes.{pass1_at, pass1}
use Rattle.pass_faults.specs.Listed.{is_among}
use Rattle.pass_faults.proofs.Laws.{lists, only_first}
use Rattle.pass_faults.proofs.scopes.Goals as goal

pub returns : goal.returns
unfolding pass1 pass1_at first is_among
returns c =
    c.run_places.ensures (pass1_at _) (lists _ _ (is_named_decl) _ refl (λ k e. grind (arith, common_steps)) (λ p r e. search (rules, only_first)) (λ p e. grind (arith, common_steps)))
