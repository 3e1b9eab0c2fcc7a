-- What was given so far is written, and for what is left there is room.
use Rattle.std.specs.Iterator.{size}
use Rattle.flag_table.specs.RecordsAppended.{RecordsAppended, Room}
use Rattle.flag_table.proofs.append_all.Given as goal

abbrev pub invariant-loop-r : goal.invariant-loop-r
invariant-loop-r g l =
    RecordsAppended l.initial.out l.count l.yielded l.out l.n × Room l.out l.n (size (g.I.Iterator.remaining l.r-iterator))
