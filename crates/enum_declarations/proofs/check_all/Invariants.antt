-- `enum_declarations::check_all` meets its contract: after d turns the faults of the places below d are noted. Assumes nothing.
use mathlib.Core.Path.{◌≡◌}
use Rattle.rules.specs.Places.{each}
use Rattle.rules.specs.Faults.{log}
use Rattle.rules.specs.EnumDeclarations.{pass4_at}
use Rattle.faults.specs.Notes.{no_faults, noted_all}
use Rattle.enum_declarations.proofs.check_all.Given as goal

abbrev pub invariant-loop-d : goal.invariant-loop-d
invariant-loop-d l = log l.tally l.buffer ≡ noted_all (log no_faults l.initial.buffer) (each (pass4_at l.table.records.now) l.d)
