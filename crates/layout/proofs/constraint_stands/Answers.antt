-- `layout::constraint_stands` meets its contract. Assumes nothing.
use Rattle.layout.proofs.constraint_stands.Goals as goal

pub returns : goal.returns
returns c = rw c.is_packet_or_struct.ensures
