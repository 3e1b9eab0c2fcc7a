-- `enum_declarations::note_tags` meets its contract: the faults of the tags before the one that comes next are noted. Assumes nothing.
use borrow.Author.Rules.{rules}
use native.Mathlib.Omega.{arith}
use Prim.Native.Nat.{◌+◌}
use mathlib.Core.Path.{refl}
use Rattle.rules.specs.EnumDeclarations.{tags_faults}
use Rattle.faults.proofs.Laws.{noted-start, noted-place, noted-end, each-total}
use Rattle.enum_tags.proofs.Laws.{tag-few}
use Rattle.enum_declarations.proofs.note_tags.Goals as goal

pub loop-init : goal.loop-init
loop-init c = record { tags = search rules; place = omega arith; noted = noted-start _ _ }

pub note_tag-kept-requires : goal.note_tag-kept-requires
note_tag-kept-requires c =
    let tags = c.args.tags.now in
    let total = each-total _ 1603 c.loop.counter _ _ (λ i. tag-few tags.marked.table.now tags.decl tags.count (tags.decl + 1 + i) (search rules)) c.loop.invariant.noted in
    omega arith

pub loop-preserved : goal.loop-preserved
loop-preserved c =
    record {
      tags = search rules;
      place = omega arith;
      noted = noted-place _ c.loop.counter _ _ c.loop.invariant.noted (rw (c.loop.invariant.tags, c.loop.invariant.place)) c.note_tag-kept.ensures;
    }

pub returns : goal.returns
unfolding tags_faults
returns c =
    noted-end _ _ c.loop.invariant.noted (search rules) c.loop-test.false refl
