-- `search::targets::holds_at` meets its contract. Assumes nothing.
use Rattle.std.proofs.Common.{rules}
use Rattle.rules.specs.Table.{at}
use Rattle.search.proofs.targets.Laws.{holds-blank}
use Rattle.search.proofs.targets.holds_at.Goals as goal

pub returns : goal.returns
unfolding at
returns c = search (rules, holds-blank)
