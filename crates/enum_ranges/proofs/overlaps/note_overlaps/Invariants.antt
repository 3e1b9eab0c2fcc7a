-- `enum_ranges::overlaps::note_overlaps` meets its contract: the faults of the pairs that were passed are noted. Assumes nothing.
use Prim.Native.Nat.{◌+◌, ◌-◌, ◌≤◌}
use mathlib.Core.Path.{◌≡◌}
use lib.ListN.{length, get_or, drop}
use Rattle.std.specs.Slice.Iter.{windows_size, windows_rest}
use Rattle.rules.specs.Places.{each}
use Rattle.rules.specs.Faults.{log}
use Rattle.rules.specs.EnumDeclarations.{overlap}
use Rattle.faults.specs.Notes.{noted_all}
use Rattle.enum_ranges.proofs.overlaps.note_overlaps.Given as goal

abbrev pub invariant-loop-pair : goal.invariant-loop-pair
invariant-loop-pair l =
    let rest = windows_rest l.pair-iterator in
    let j = length l.places - length rest in
    (windows_size l.pair-iterator ≡ 2) × (length rest ≤ length l.places) × (rest ≡ drop j l.places) × (j ≤ length l.places - 1)
    × (log l.kept l.buffer ≡ noted_all (log l.initial.kept l.initial.buffer) (each (λ i. overlap l.table (get_or l.places i 0) (get_or l.places (i + 1) 0)) j))
