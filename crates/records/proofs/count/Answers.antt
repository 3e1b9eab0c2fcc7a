-- `records::count` meets its contract. Assumes nothing.
use mathlib.Core.Path.{sym}
use Rattle.records.proofs.Laws.{length-decode}
use Rattle.records.proofs.count.Goals as goal

pub returns : goal.returns
returns c = sym (length-decode c.args.bytes.now)
