-- The first place that the chain finds is the first loose one.
use Rattle.std.proofs.Common.{rules, tests}
use Rattle.rules.specs.DesugarFlags.{loose_at, first_loose}
use Rattle.table.proofs.Searches.{first-found}
use Rattle.desugar_flags.proofs.find_loose.Goals as goal

pub returns : goal.returns
unfolding first_loose
returns c =
    first-found (loose_at c.args.table.now) _ _ _ c.find.result c.find.ensures.ran (λ x b q k. search (rules, tests))
