-- `accepted_table::write_table` meets its contract: the flags are made of what inlining wrote. Assumes nothing.
use native.Mathlib.Omega.{arith}
use mathlib.Core.Path.{sym}
use Prim.Native.Nat.{◌≤◌}
use lib.ListN.{length}
use lib.Seq.{length-take-le}
use Rattle.std.specs.Prelude.{◌≡◌}
use Rattle.rules.specs.InlineGroups.{inlined}
use Rattle.accepted_table.proofs.Laws.{told-swollen, told-short, told-unfit, inlined-few, few-taken, told-inlined}
use Rattle.accepted_table.proofs.write_table.Goals as goal
use Rattle.accepted_table.proofs.write_table.Goals.{In-Ok}

-- what the inlined table has, where it was made
fits-few : (c : In-Ok) → (c.in-Ok.n ≤ 1600) × (c.in-Ok.n ≡ length (inlined c.args.listed.table.records.now)) × (c.in-Ok.n ≤ length c.args.expanded.now)
fits-few c =
    inlined-few c.args.listed.table.records.now c.args.expanded.now c.inline_groups.ensures.value.0 c.inline_groups.ensures.value.1 _ c.in-Ok.is

pub slice_bounds-records-end : goal.slice_bounds-records-end
slice_bounds-records-end c =
    let few = fits-few (goal.at.slice_bounds-records-end c).In-Ok in
    omega (arith, few.2, c.inline_groups.auto.out)

pub slice_bounds-records-end-in-Ok : goal.slice_bounds-records-end-in-Ok
slice_bounds-records-end-in-Ok c =
    let few = fits-few (goal.at.slice_bounds-records-end-in-Ok c).In-Ok in
    sym (length-take-le _ _ (omega (arith, few.2, c.inline_groups.auto.out)))

pub invariant_of-desugar_flags : goal.invariant_of-desugar_flags
invariant_of-desugar_flags c =
    let few = fits-few (goal.at.invariant_of-desugar_flags c).In-Ok in
    record { few = few-taken _ _ (omega (arith, few.0)) }

pub returns-in-Err-Swollen : goal.returns-in-Err-Swollen
returns-in-Err-Swollen c = told-swollen _ _ c.inline_groups.ensures.value.0 _ (rw c.in-Err-Swollen.field-0-is at c.in-Err-Swollen.is)

pub returns-in-Err-BufferShort : goal.returns-in-Err-BufferShort
returns-in-Err-BufferShort c = told-short _ _ c.inline_groups.ensures.value.0 _ (rw c.in-Err-BufferShort.field-0-is at c.in-Err-BufferShort.is)

pub returns-in-Err-Unfit : goal.returns-in-Err-Unfit
returns-in-Err-Unfit c = told-unfit _ _ c.inline_groups.ensures.value.0 _ _ (rw c.in-Err-Unfit.field-0-is at c.in-Err-Unfit.is)

pub returns-in-Ok : goal.returns-in-Ok
returns-in-Ok c =
    told-inlined c.args.listed.table.records.now c.args.expanded.now c.inline_groups.ensures.value.0 c.inline_groups.ensures.value.1 _ c.in-Ok.is
    c.args.table.now _ (omega arith) c.desugar_flags.ensures
