-- `size_fields::starts::Kept::set_starts` meets its contract: the starts that are known are right. Assumes nothing.
use Rattle.std.proofs.Common.{rules, arith}
use Rattle.rules.specs.Table.{at}
use Rattle.size_fields.proofs.starts.Laws.{starts-one, kept-within}
use Rattle.size_fields.proofs.starts.Kept.set_starts.Goals as goal
use Rattle.size_fields.proofs.starts.Kept.set_starts.Goals.{then-is_size, else-is_size}

pub loop-q-preserved : goal.loop-q-preserved
unfolding at
loop-q-preserved c =
    elim c.if-is_size.branch [
      | then-is_size w ↦ rw (w.starts-is, w.start_for.ensures)
          (starts-one _ _ _ _ (search rules) c.loop-q.invariant (kept-within _ _ _ c.args.decl _ c.requires.2 c.requires.1 (omega arith) c.loop-q-test.true))
      | else-is_size w ↦ rw w.starts-is c.loop-q.invariant
    ]
