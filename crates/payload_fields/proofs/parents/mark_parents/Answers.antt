-- `payload_fields::parents::mark_parents` meets its contract. Assumes nothing.
use Rattle.std.proofs.Common.{ℕ, ◌≡◌, ◌+◌, ◌%◌, ◌∙◌, arith, List, Bool, true, false, ◌&&◌, length, set, mod-lt}
use Rattle.std.proofs.lemmas.Grind.{common_steps}
use Rattle.rules.specs.Kinds.{is_packet_or_struct}
use Rattle.rules.specs.Table.{at}
use Rattle.rules.specs.PayloadFields.{has_field}
use Rattle.rules.specs.declared.Record.{Record}
use Rattle.payload_fields.specs.Parents.{NoChildWithField}
use Rattle.payload_fields.proofs.parents.mark_parents.Goals as goal
use Rattle.payload_fields.proofs.parents.mark_parents.Goals.{then-is_packet_or_struct+then-has_member, else-is_packet_or_struct, else-is_packet_or_struct-via-then-is_packet_or_struct+else-has_member, else-is_packet_or_struct-via-else-is_packet_or_struct}

module _ (rs : List Record) (marks : List Bool) (n : ℕ) (w : NoChildWithField rs marks n) where
  no-child : is_packet_or_struct (at rs n).kind && has_field rs n ≡ false → NoChildWithField rs marks (n + 1)
  no-child e = record { none = λ d m c l. grind (arith, common_steps, w.none d m c) }

  child_marked : length marks ≡ 4093 → NoChildWithField rs (set marks ((at rs n).second % 4093) true) (n + 1)
  child_marked e = record { none = λ d m c l. grind (arith, common_steps, w.none d, mod-lt) }

pub loop-child-preserved : goal.loop-child-preserved
unfolding at
loop-child-preserved c =
    elim c.if-is_packet_or_struct.branch [
      | then-is_packet_or_struct+then-has_member w ↦
          rw (w.parents-is, w.from.ensures) (child_marked _ _ _ c.loop-child.invariant (c.loop-child.auto.parents ∙ c.requires))
      | else-is_packet_or_struct w ↦
          rw w.parents-is (no-child _ _ _ c.loop-child.invariant (elim w.else-is_packet_or_struct.branch [
            | else-is_packet_or_struct-via-then-is_packet_or_struct+else-has_member w' ↦ grind (arith, common_steps)
            | else-is_packet_or_struct-via-else-is_packet_or_struct w' ↦ grind (arith, common_steps)
          ]))
    ]
