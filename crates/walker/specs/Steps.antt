-- The places that a walker passes. Assumes nothing.
use Rattle.std.specs.Prelude.{ℕ, ◌+◌, List, length, ltb, if◌then◌else◌}
use Rattle.rules.specs.declared.Record.{Record}

-- the place behind p; past the end p stays
unfoldable pub next_place : List Record → ℕ → ℕ
next_place rs p = if ltb p (length rs) then p + 1 else p
