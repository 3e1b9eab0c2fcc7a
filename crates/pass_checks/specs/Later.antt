-- Passes 3 to 9 in order: the lowest that finds faults, and the fault buffer.
use Rattle.std.specs.Prelude.{ℕ, List, [], ◌∷◌, Bool, length, ltb, None, Option, Some, Result, Ok, Err}
use Rattle.rules.specs.Places.{first}
use Rattle.rules.specs.Faults.{logged}
use Rattle.rules.specs.Replies.{Numbered, numbers, later_faults}
use Rattle.rules.specs.declared.Record.{Record}
use Rattle.pass_checks.specs.declared.Faulty.{Faulty}

-- the row of the table of replies and its values; 0 where no pass finds faults
unfoldable pub checked_numbered : Result (Unit {0}) Faulty → Numbered
checked_numbered (Err f) = numbers 4 (f.pass ∷ f.total ∷ [])
checked_numbered (Ok _) = numbers 0 []

-- the answer with the bytes of the fault buffer
pub record Outcome : Type 0 where
  pub reply : Numbered
  pub faults : List ℕ

abbrev pub outcome : Result (Unit {0}) Faulty → List ℕ → Outcome
outcome r b = record { reply = checked_numbered r; faults = b }

abbrev pub finds_later : List Record → ℕ → Bool
finds_later rs k = ltb 0 (length (later_faults k rs))

-- only the pass that finds faults writes
unfoldable pub by_later : List Record → List ℕ → Option ℕ → Outcome
by_later rs b (Some k) = outcome (Err (record { pass = k; total = length (later_faults k rs) })) (logged b (later_faults k rs)).buffer
by_later rs b None = outcome (Ok tt) b

-- the lowest of 3–9
unfoldable pub later : List Record → List ℕ → Outcome
later rs b = by_later rs b (first (finds_later rs) 3 7)
