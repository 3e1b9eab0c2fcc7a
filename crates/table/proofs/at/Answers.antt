-- `table::at` meets its contract. Assumes nothing.
use Rattle.std.proofs.Common.{rules}
use Rattle.table.proofs.Laws.{default_blank}
use Rattle.rules.specs.Table.{at}
use Rattle.table.proofs.at.Goals as goal

pub returns : goal.returns
unfolding at
returns c = search (rules, default_blank)
