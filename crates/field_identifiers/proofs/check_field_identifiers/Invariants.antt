-- `field_identifiers::check_field_identifiers` meets its contract: after place turns the faults of the places below place are noted.
-- Assumes nothing.
use Prim.Native.Nat.{◌≤◌}
use mathlib.Core.Path.{◌≡◌}
use Rattle.rules.specs.Places.{each}
use Rattle.rules.specs.Faults.{log}
use Rattle.rules.specs.FieldIdentifiers.{pass3_at}
use Rattle.faults.specs.Notes.{no_faults, noted_all}
use Rattle.field_identifiers.proofs.check_field_identifiers.Given as goal

abbrev pub invariant-loop-place : goal.invariant-loop-place
invariant-loop-place l =
    (log l.tally l.buffer ≡ noted_all (log no_faults l.initial.buffer) (each (pass3_at l.marks.table.now) l.place)) × (l.tally.total ≤ l.place)
