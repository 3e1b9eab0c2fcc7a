-- `enum_declarations::note_place` meets its contract. Assumes nothing.
use borrow.Author.Tests.{ne_eqb}
use Rattle.rules.specs.EnumDeclarations.{pass4_at}
use Rattle.faults.proofs.Laws.{noted-none}
use Rattle.enum_declarations.proofs.note_place.Goals as goal

pub returns-then-kind-ne-ENUM : goal.returns-then-kind-ne-ENUM
unfolding pass4_at
returns-then-kind-ne-ENUM c =
    rw (← c.kind.ensures, ne_eqb _ _ c.if-kind-ne-ENUM.true) (noted-none _)
