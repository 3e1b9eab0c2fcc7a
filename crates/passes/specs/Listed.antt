-- The rows of the table of replies from pass 3 on, on the listed table.
use Rattle.std.specs.Prelude.{ℕ, List, None, Option, Some}
use Rattle.rules.specs.Places.{first}
use Rattle.rules.specs.InlineGroups.{inlined}
use Rattle.rules.specs.Replies.{Answer, later_faults, answered_faulty, by_size}
use Rattle.rules.specs.declared.Record.{Record}
use Rattle.pass_checks.specs.Later.{finds_later}

-- that pass, the lowest of 3–9, finds faults
unfoldable pub by_listed_pass : List Record → List ℕ → List ℕ → Option ℕ → Answer
by_listed_pass ls t f (Some k) = answered_faulty k (later_faults k ls) t f
by_listed_pass ls t f None = by_size (inlined ls) t f

unfoldable pub by_listed : List Record → List ℕ → List ℕ → Answer
by_listed ls t f = by_listed_pass ls t f (first (finds_later ls) 3 7)
