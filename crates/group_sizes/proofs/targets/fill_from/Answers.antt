-- `group_sizes::targets::fill_from` meets its contract: the group fields below p are resolved. Assumes nothing.
use Rattle.std.proofs.Common.{arith, sym, ◌∙◌}
use Rattle.group_sizes.proofs.Known.{named_in}
use Rattle.group_sizes.proofs.targets.fill_from.Goals as goal

pub overflow_cast-targets : goal.overflow_cast-targets
overflow_cast-targets c =
    omega (arith, named_in _ _ (sym c.decl_named.ensures ∙ c.in-Some.is), c.requires.table_len_bound.0)
