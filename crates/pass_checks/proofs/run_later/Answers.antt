-- `pass_checks::run_later` meets its contract: each pass finds faults, or leaves the buffer to the next. Assumes nothing.
use Rattle.std.proofs.Common.{rules}
use Rattle.rules.specs.Replies.{later_faults}
use Rattle.pass_checks.proofs.Laws.{clean_start, clean_next, faulty_at, clean_last}
use Rattle.pass_checks.proofs.run_later.Goals as goal

pub returns-in_err-clean : goal.returns-in_err-clean
unfolding later_faults
returns-in_err-clean c =
    faulty_at (clean_start _ _) c.check_field_identifiers.ensures c.in_err-clean.ensures (search rules)

pub returns-in_err-clean-2 : goal.returns-in_err-clean-2
unfolding later_faults
returns-in_err-clean-2 c =
    faulty_at (clean_next (clean_start _ _) c.check_field_identifiers.ensures c.in_ok-clean.ensures) c.check_enum_declarations.ensures c.in_err-clean-2.ensures (search rules)

pub returns-in_err-clean-3 : goal.returns-in_err-clean-3
unfolding later_faults
returns-in_err-clean-3 c =
    faulty_at (clean_next (clean_next (clean_start _ _) c.check_field_identifiers.ensures c.in_ok-clean.ensures) c.check_enum_declarations.ensures c.in_ok-clean-2.ensures) c.check_size_fields.ensures c.in_err-clean-3.ensures (search rules)

pub returns-in_err-clean-4 : goal.returns-in_err-clean-4
unfolding later_faults
returns-in_err-clean-4 c =
    faulty_at (clean_next (clean_next (clean_next (clean_start _ _) c.check_field_identifiers.ensures c.in_ok-clean.ensures) c.check_enum_declarations.ensures c.in_ok-clean-2.ensures) c.check_size_fields.ensures c.in_ok-clean-3.ensures) c.check_fixed_fields.ensures c.in_err-clean-4.ensures (search rules)

pub returns-in_err-clean-5 : goal.returns-in_err-clean-5
unfolding later_faults
returns-in_err-clean-5 c =
    faulty_at (clean_next (clean_next (clean_next (clean_next (clean_start _ _) c.check_field_identifiers.ensures c.in_ok-clean.ensures) c.check_enum_declarations.ensures c.in_ok-clean-2.ensures) c.check_size_fields.ensures c.in_ok-clean-3.ensures) c.check_fixed_fields.ensures c.in_ok-clean-4.ensures) c.check_payload_fields.ensures c.in_err-clean-5.ensures (search rules)

pub returns-in_err-clean-6 : goal.returns-in_err-clean-6
unfolding later_faults
returns-in_err-clean-6 c =
    faulty_at (clean_next (clean_next (clean_next (clean_next (clean_next (clean_start _ _) c.check_field_identifiers.ensures c.in_ok-clean.ensures) c.check_enum_declarations.ensures c.in_ok-clean-2.ensures) c.check_size_fields.ensures c.in_ok-clean-3.ensures) c.check_fixed_fields.ensures c.in_ok-clean-4.ensures) c.check_payload_fields.ensures c.in_ok-clean-5.ensures) c.check_array_fields.ensures c.in_err-clean-6.ensures (search rules)

pub returns : goal.returns
unfolding later_faults
returns c =
    clean_last (clean_next (clean_next (clean_next (clean_next (clean_next (clean_next (clean_start _ _) c.check_field_identifiers.ensures c.in_ok-clean.ensures) c.check_enum_declarations.ensures c.in_ok-clean-2.ensures) c.check_size_fields.ensures c.in_ok-clean-3.ensures) c.check_fixed_fields.ensures c.in_ok-clean-4.ensures) c.check_payload_fields.ensures c.in_ok-clean-5.ensures) c.check_array_fields.ensures c.in_ok-clean-6.ensures) c.check_padding_fields.ensures _ c.clean-7.ensures
