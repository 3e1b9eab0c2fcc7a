-- `records::read` meets its contract: the records below the place are read, those from it on are as they were. Assumes nothing.
use mathlib.Core.Path.{◌≡◌}
use lib.ListN.{length, take, drop}
use Rattle.rules.specs.Table.{decode}
use Rattle.records.proofs.read.Given as goal

abbrev pub invariant-loop-place : goal.invariant-loop-place
invariant-loop-place l =
    (length l.table ≡ length l.fn.table) × (take l.place l.table ≡ take l.place (decode l.bytes)) × (drop l.place l.table ≡ drop l.place l.fn.table)
