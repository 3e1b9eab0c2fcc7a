-- What the places below the loop's become is written.
use mathlib.Core.Path.{◌≡◌}
use Rattle.rules.specs.Places.{each}
use Rattle.rules.specs.DesugarFlags.{members_start, desugared_at}
use Rattle.flag_table.specs.RecordsAppended.{RecordsAppended}
use Rattle.flag_table.proofs.write_all.Given as goal

abbrev pub invariant-loop-p : goal.invariant-loop-p
invariant-loop-p l =
    RecordsAppended l.initial.out 0 (each (desugared_at l.counts.table.records.now) l.p) l.out l.n × (l.a ≡ members_start l.counts.table.records.now l.p)
