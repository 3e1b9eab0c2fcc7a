-- The constraints of a field.
use Rattle.std.specs.Prelude.{ℕ, ◌-◌, List, length}
use Rattle.rules.specs.InlineGroups.{constraints}
use Rattle.rules.specs.declared.Record.{Record}

-- the constraints from p on
abbrev pub constraints_from : List Record → ℕ → List ℕ
constraints_from rs p = constraints rs p (length rs - p)
