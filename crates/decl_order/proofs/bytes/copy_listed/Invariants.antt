-- `decl_order::bytes::copy_listed` meets its contract: the bytes of the declarations at the places so far are copied. Assumes nothing.
use Rattle.decl_order.proofs.BytesCopies.{BytesCopied}
use Rattle.decl_order.proofs.bytes.copy_listed.Given as goal

abbrev pub invariant-loop-place : goal.invariant-loop-place
invariant-loop-place l = BytesCopied l.table l.places l.initial.out l.out l.count l.place-index
