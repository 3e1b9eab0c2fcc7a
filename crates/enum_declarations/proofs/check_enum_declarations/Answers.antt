-- `enum_declarations::check_enum_declarations` meets its contract. Assumes nothing.
use mathlib.Core.Path.{sym, ◌∙◌}
use Rattle.faults.proofs.Laws.{noted-none, noted-logged}
use Rattle.enum_declarations.proofs.Laws.{none-at-all}
use Rattle.enum_declarations.proofs.check_enum_declarations.Goals as goal

pub returns-then-not-has_enum : goal.returns-then-not-has_enum
returns-then-not-has_enum c =
    rw (none-at-all c.args.table.records.now (sym c.has_enum.ensures ∙ c.if-not-has_enum.true), c.no_faults.ensures) (noted-none _ ∙ noted-logged _ _)
