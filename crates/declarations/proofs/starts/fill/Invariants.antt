-- `declarations::starts::fill` meets its contract: the starts are those from the place on. Assumes nothing.
use Rattle.declarations.specs.Starts.{StartsFrom}
use Rattle.declarations.proofs.starts.fill.Given as goal

abbrev pub invariant-loop-place : goal.invariant-loop-place
invariant-loop-place l = StartsFrom l.table.records.now l.starts l.place
