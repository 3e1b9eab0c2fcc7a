-- The lengths of a stored case fit the buffers.
use Rattle.std.specs.Prelude.{ℕ, ◌≤◌}
use Rattle.replay_cases.specs.declared.Case.{Case}

abbrev pub CaseFits : ℕ → Case → Type 0
CaseFits n c = (c.input ≤ n) × (c.table ≤ 64000) × (c.faults ≤ 64000)
