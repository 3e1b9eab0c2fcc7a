-- `enum_tags::note_held` meets its contract: the fault is noted as often as ranges hold the value. Assumes nothing.
use Rattle.enum_tags.proofs.Held.{held_all}
use Rattle.enum_tags.proofs.note_held.Goals as goal

pub returns : goal.returns
returns c =
    let tags = c.args.tags.now in
    let all = held_all tags.marked.table.now tags.decl tags.count tags.bounds.lows.now tags.bounds.highs.now tags.bounded in
    rw (← all c.args.place, ← c.at-r.ensures, ← c.holders-count.ensures.0, ← c.single.ensures)
    c.note_times.ensures
