-- `enum_tags::note_times` meets its contract: after some turns the fault is noted as often. Assumes nothing.
use mathlib.Core.Path.{◌≡◌}
use mathlib.Core.List.{[], ◌∷◌}
use Rattle.rules.specs.Places.{each}
use Rattle.rules.specs.Faults.{log}
use Rattle.faults.specs.Notes.{noted_all}
use Rattle.enum_tags.proofs.note_times.Given as goal

abbrev pub invariant-loop : goal.invariant-loop
invariant-loop l = log l.kept l.buffer ≡ noted_all (log l.initial.kept l.initial.buffer) (each (λ _. l.fault ∷ []) l.counter)
