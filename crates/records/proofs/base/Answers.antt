-- `records::base` meets its contract. Assumes nothing.
use mathlib.Core.Path.{refl}
use native.Mathlib.Omega.{arith}
use Rattle.records.proofs.Laws.{place-fits, at-decode}
use Rattle.records.proofs.base.Goals as goal

pub overflow_mul-result : goal.overflow_mul-result
overflow_mul-result c = omega (arith, place-fits c.args.bytes.now c.args.place c.requires)

pub returns : goal.returns
returns c = (refl, at-decode c.args.bytes.now c.args.place c.requires, place-fits c.args.bytes.now c.args.place c.requires)
