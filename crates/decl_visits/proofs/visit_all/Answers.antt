-- `decl_visits::visit_all` meets its contract: the places below p are taken up, and the rest makes the whole. Assumes nothing.
use Rattle.std.proofs.Common.{arith, sym}
use Rattle.decl_visits.proofs.Loop.{loop-start, loop-end, loop-call, loop-turn, loop-skip}
use Rattle.rules.specs.Table.{at}
use Rattle.decl_visits.proofs.visit_all.Goals as goal

pub loop-p-init : goal.loop-p-init
loop-p-init c = loop-start _ c.args.progress.now _ c.requires.0 c.requires.1

pub loop-p-preserved-then-not-is_decl : goal.loop-p-preserved-then-not-is_decl
unfolding at
loop-p-preserved-then-not-is_decl c = loop-skip _ c.loop-p.invariant (omega arith) (sym c.if-not-is_decl.ensures)

pub take_up-requires : goal.take_up-requires
take_up-requires c = loop-call _ c.loop-p.invariant (omega arith) c.root_reference-r.ensures

pub loop-p-preserved : goal.loop-p-preserved
loop-p-preserved c =
    loop-turn _ c.loop-p.invariant (omega arith) c.root_reference-r.ensures _ _ (λ k. c.take_up.ensures k _)

pub returns : goal.returns
returns c = loop-end _ c.loop-p.invariant (omega arith)
