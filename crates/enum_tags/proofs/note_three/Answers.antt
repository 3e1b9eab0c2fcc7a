-- `enum_tags::note_three` meets its contract: three lists one after the other. Assumes nothing.
use Rattle.std.specs.Option.{option_to_list}
use native.Mathlib.Omega.{arith}
use Rattle.faults.proofs.Laws.{noted-then, total-after, findings-few}
use Rattle.enum_tags.proofs.note_three.Goals as goal

pub note_found-b-requires : goal.note_found-b-requires
note_found-b-requires c =
    omega (arith, total-after _ _ (option_to_list c.args.first) c.note_found-a.ensures, findings-few c.args.first)

pub note_found-requires : goal.note_found-requires
note_found-requires c =
    omega (arith, total-after _ _ (option_to_list c.args.first) c.note_found-a.ensures, findings-few c.args.first, total-after _ _ (option_to_list c.args.second) c.note_found-b.ensures, findings-few c.args.second)

pub returns : goal.returns
returns c =
    noted-then _ _ (option_to_list c.args.third) (noted-then _ (option_to_list c.args.first) (option_to_list c.args.second) c.note_found-a.ensures c.note_found-b.ensures) c.note_found.ensures
