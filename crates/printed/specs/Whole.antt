-- An answer whose records stand in its table.
use Rattle.std.specs.Prelude.{ℕ, ◌*◌, ◌≤◌, length, get_or, eqb, if◌then◌else◌}
use Rattle.rules.specs.Table.{record_length}
use Rattle.rules.specs.Replies.{Numbered, Answer}

-- the records behind Accepted, row 10; there are none behind another reply
unfoldable pub records_behind : Numbered → ℕ
records_behind r = if eqb r.row 10 then get_or r.values 0 0 else 0

-- all records to print stand in the table. `answer-whole` (proofs/Answers.antt) shows it of every answer
abbrev pub Whole : Answer → Type 0
Whole a = record_length * records_behind a.reply ≤ length a.table
