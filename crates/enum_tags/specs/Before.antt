-- The range that a value stands in.
use Rattle.std.specs.Prelude.{ℕ, List, Option}
use Rattle.rules.specs.Places.{nearest, holds_at}
use Rattle.rules.specs.declared.Record.{Record}
use Rattle.rules.specs.declared.Target.TheVariants.{Range}

-- the range that an inner value at p belongs to
abbrev pub range_before : List Record → ℕ → Option ℕ
range_before rs p = nearest (holds_at rs Range) p
