-- The analyzer keeps the buffers' lengths, and the records of its answer stand in the table.
use Rattle.std.proofs.Common.{arith}
use Rattle.program.proofs.Laws.{whole-answer}
use Rattle.program.proofs.answer_with.Goals as goal

pub append_answer-requires : goal.append_answer-requires
append_answer-requires c =
    let a = c.analyze-reply in (
      omega arith,
      omega arith,
      omega arith,
      whole-answer c.args.input.now c.args.table.now c.args.faults.now a.result a.ensures,
    )
