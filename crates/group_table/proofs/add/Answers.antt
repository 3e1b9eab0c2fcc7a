-- `group_table::add` meets its contract. Assumes nothing.
use Rattle.group_table.specs.Outputs.{added}
use Rattle.group_table.proofs.add.Goals as goal

pub returns : goal.returns
unfolding added
returns c = rw c.unfit_after.ensures
