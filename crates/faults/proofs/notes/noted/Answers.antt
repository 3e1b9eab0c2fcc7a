-- `faults::notes::noted` meets its contract. Assumes nothing.
use mathlib.Core.Path.{sym}
use Rattle.faults.proofs.Laws.{noted-kept, noted-full}
use Rattle.faults.proofs.notes.noted.Goals as goal

pub returns-then-before-buffer : goal.returns-then-before-buffer
returns-then-before-buffer c =
    let a = c.args in
    rw (c.write.ensures, c.bytes_of.ensures) (sym (noted-kept a.before a.buffer.now a.fault c.if-before-buffer.true))

pub returns : goal.returns
returns c = let a = c.args in sym (noted-full a.before a.buffer.now a.fault c.if-before-buffer.false)
