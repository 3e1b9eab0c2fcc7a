-- `decl_order::copy_listed` meets its contract: the declarations at the places so far are copied. Assumes nothing.
use Rattle.decl_order.proofs.Copies.{Copied}
use Rattle.decl_order.proofs.copy_listed.Given as goal

abbrev pub invariant-loop-place : goal.invariant-loop-place
invariant-loop-place l = Copied l.table l.places l.initial.out l.out l.count l.place-index
