-- `search::members::member_count` meets its contract. Assumes nothing.
use native.Mathlib.Omega.{arith}
use mathlib.Core.Path.{refl}
use Rattle.std.proofs.lemmas.Grind.{common_steps}
use Rattle.search.proofs.members.Laws.{members-end}
use Rattle.search.proofs.members.member_count.Goals as goal

pub overflow_sub-result : goal.overflow_sub-result
overflow_sub-result c = grind (arith, common_steps, members-end c.args.table.now c.args.decl c.requires _ refl)

pub returns : goal.returns
returns c = grind (arith, common_steps, members-end c.args.table.now c.args.decl c.requires _ refl)
