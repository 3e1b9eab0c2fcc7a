-- `pass_faults::run_places` meets its contract: the faults of the places below this one are noted. Assumes nothing.
use Rattle.std.proofs.Common.{◌≡◌, ◌*◌, ◌≤◌, ℕ, List}
use Rattle.rules.specs.Places.{each}
use Rattle.rules.specs.Faults.{log}
use Rattle.rules.specs.declared.Fault.{Fault}
use Rattle.faults.specs.Notes.{no_faults, noted_all}
use Rattle.pass_faults.specs.Listed.{Lists}
use Rattle.pass_faults.proofs.run_places.Given as goal

abbrev pub invariant-loop-place : goal.invariant-loop-place
invariant-loop-place g l =
    ((listed : ℕ → List Fault) → Lists (goal.F-post g l.found_at) l.table l.kinds listed → log l.tally l.buffer ≡ noted_all (log no_faults l.initial.buffer) (each listed l.place))
    × (l.tally.total ≤ 2 * l.place)
