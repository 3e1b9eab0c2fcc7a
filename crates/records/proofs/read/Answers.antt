-- `records::read` meets its contract: the records below the place are read, those from it on are as they were. Assumes nothing.
use Prim.Native.Nat.{◌+◌}
use mathlib.Core.Path.{◌≡◌, refl, sym, ap, ◌∙◌}
use native.Mathlib.Omega.{arith}
use native.Mathlib.Numerals.{add-one}
use lib.ListN.{drop, take-append-drop}
use lib.Seq.{drop-drop}
use Rattle.std.proofs.Common.{rules, take_all}
use Rattle.std.proofs.Math.Seq.{take-suc}
use Rattle.std.proofs.lemmas.List.{take_more_set, drop-set-lt}
use Rattle.rules.specs.Table.{decode, at, blank}
use Rattle.records.proofs.read.Goals as goal

pub loop-place-preserved : goal.loop-place-preserved
unfolding at
loop-place-preserved c =
    let l = c.loop-place in (
      search rules,
      rw (take_more_set l.table l.place c.record.result (omega (arith, l.invariant.0, c.requires, c.loop-place-test.true, c.count-n.ensures)), l.invariant.1, c.record.ensures, add-one)
          (sym (take-suc _ l.place blank (omega (arith, c.loop-place-test.true, c.count-n.ensures)))),
      drop-set-lt (l.place + 1) l.table l.place c.record.result (omega arith) ∙ sym (drop-drop 1 l.place l.table) ∙ ap (drop 1) l.invariant.2 ∙ drop-drop 1 l.place c.args.table.now,
    )

pub returns : goal.returns
returns c =
    let l = c.loop-place in
    let z : l.place ≡ c.count-n.result = search rules in
    (c.count-n.ensures, sym (take-append-drop l.place l.table) ∙ rw (l.invariant.1, l.invariant.2, z, take_all c.count-n.result (decode c.args.bytes.now) (omega (arith, c.count-n.ensures))) refl)
