-- What stands for the bytes read so far is at the start of the input's buffer.
use Rattle.std.proofs.Common.{◌≤◌, List, ℕ, take}
use Rattle.std.specs.Io.KnownBytes.{Consumes}
use Rattle.program.specs.Inputs.{StandsFor}
use Rattle.program.proofs.input.read_all.Given as goal

abbrev pub invariant-loop : goal.invariant-loop
invariant-loop g l =
    (l.total ≤ 64040)
    × ((i : List ℕ) × Consumes (g.R.Read.remaining l.initial.reader) (g.R.Read.remaining l.reader) i × StandsFor i (take l.total l.input))
