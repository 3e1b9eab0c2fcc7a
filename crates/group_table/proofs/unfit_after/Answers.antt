-- `group_table::unfit_after` meets its contract. Assumes nothing.
use Rattle.std.proofs.Common.{◌≡◌, true, false, not, refl, Option, None, Some, if◌then◌else◌}
use Rattle.std.specs.Bool.{then_some}
use Rattle.std.specs.Option.{option_or}
use Rattle.rules.specs.Table.{field_key}
use Rattle.rules.specs.declared.Inlined.{Inlined}
use Rattle.rules.specs.declared.FieldKey.{FieldKey}
use Rattle.group_table.specs.Outputs.{unfit_after}
use Rattle.group_table.proofs.unfit_after.Goals as goal

first_kept : (u : Option FieldKey) (x : Inlined) → option_or u (then_some (not x.fit) (field_key x.made)) ≡ unfit_after u x
unfolding unfit_after
first_kept (Some k) x = refl
first_kept None x =
    elim x.fit as (λ b. option_or None (then_some (not b) (field_key x.made)) ≡ (if b then None else Some (field_key x.made))) [ true ↦ refl | false ↦ refl ]

pub returns : goal.returns
returns c = rw (c.or.ensures, c.then_some.ensures) (first_kept c.args.unfit c.args.next)
