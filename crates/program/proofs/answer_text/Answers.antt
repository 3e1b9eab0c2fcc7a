-- What the program prints is the answer with buffers of zeros.
use Rattle.rules.specs.Printed.{program}
use Rattle.program.proofs.answer_text.Goals as goal

pub returns : goal.returns
unfolding program
returns c = c.answer_with.ensures
