-- A declaration whose mark is false lacks no Payload. Assumes nothing.
use Rattle.std.proofs.Common.{None, Option, Some, arith, refl, ℕ, ◌≡◌, ◌%◌, List, [], Bool, true, false, length, get_or}
use Rattle.rules.specs.Places.{first}
use Rattle.rules.specs.Table.{at}
use Rattle.rules.specs.Choice.{when}
use Rattle.rules.specs.PayloadFields.{child_with_field, has_payload, missing_payload}
use Rattle.rules.specs.declared.Record.{Record}
use Rattle.table.proofs.Searches.{first-nothing}
use Rattle.payload_fields.specs.Parents.{Parents}

pub none_missing : (rs : List Record) (marks : List Bool) (d : ℕ) → Parents rs marks → get_or marks ((at rs d).name % 4093) true ≡ false
    → [] ≡ missing_payload rs d (first (child_with_field rs d) 0 (length rs))
unfolding missing_payload
none_missing rs marks d w m = rw (first-nothing (child_with_field rs d) 0 (length rs) (λ i l. w.none d m i (omega arith)))

-- nor does one that has a Payload or Body
pub payload-missing : (rs : List Record) (d : ℕ) (f : Option ℕ) → has_payload rs d ≡ true → [] ≡ missing_payload rs d f
unfolding missing_payload when
payload-missing rs d (Some c) e = rw e
payload-missing rs d None e = refl
