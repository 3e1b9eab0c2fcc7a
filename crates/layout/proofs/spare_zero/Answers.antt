-- `layout::spare_zero` meets its contract. Assumes nothing.
use Rattle.layout.proofs.spare_zero.Goals as goal

pub returns : goal.returns
returns c =
    rw (c.number4.ensures, c.number2-3.ensures, c.number2-2.ensures, c.number2.ensures)
