-- `payload_fields::child_with_field` meets its contract: what `find` finds is the first place. Assumes nothing.
use Rattle.std.proofs.Common.{rules}
use Rattle.table.proofs.Searches.{first-found}
use Rattle.payload_fields.proofs.child_with_field.Goals as goal

pub returns : goal.returns
returns c = first-found _ _ _ _ _ c.find.ensures.ran (λ x b q k. search rules)
