-- `faults::fault::bytes_of` meets its contract: each number's bytes stand where they are written. Assumes nothing.
use Rattle.std.proofs.Math.Nat.{div-div-eq-div-mul}
use Rattle.rules.specs.Bytes.{bytes}
use Rattle.rules.specs.Faults.{fault_bytes}
use Rattle.faults.proofs.fault.bytes_of.Goals as goal

pub returns : goal.returns
unfolding fault_bytes bytes
returns c =
    rw (
      c.copy_from_slice.ensures.after,
      c.to_le_bytes.ensures,
      c.copy_from_slice-2.ensures.after,
      c.to_le_bytes-2.ensures,
      c.copy_from_slice-3.ensures.after,
      c.to_le_bytes-3.ensures,
      c.copy_from_slice-4.ensures.after,
      c.to_le_bytes-4.ensures,
      c.copy_from_slice-5.ensures.after,
      c.to_le_bytes-5.ensures,
      c.copy_from_slice-6.ensures.after,
      c.to_le_bytes-6.ensures,
    )
    (simp div-div-eq-div-mul)
