-- `enum_bounds::holders` meets its contract. Assumes nothing.
use borrow.Author.Rules.{rules}
use mathlib.Core.Path.{◌≡◌, ap, ◌∙◌}
use lib.Dec.{leb}
use lib.ListN.{length, take}
use Rattle.std.specs.Prelude.{count_by}
use lib.Seq.{length-take-le}
use native.Mathlib.Omega.{arith}
use Prim.Native.Nat.{◌≤◌}
use Rattle.std.proofs.lemmas.List.Sums.{count_by-le-length}
use Rattle.std.proofs.lemmas.List.Sorted.{IsPartitionPoint-from_clause, IsPartitionedBy-leb}
use Rattle.enum_bounds.proofs.Splits.{holders-split}
use Rattle.enum_bounds.proofs.holders.Goals as goal

pub returns : goal.returns
returns c =
    let v = c.args.value in
    let lows = c.args.bounds.now.lows.now in
    let highs = c.args.bounds.now.highs.now in
    let few : c.partition_point-k.result ≤ length highs = search rules in
    let parted = IsPartitionedBy-leb (λ x. x) lows v c.args.bounds.now.ascending in
    let point = IsPartitionPoint-from_clause (λ x. leb x v) _ _ c.partition_point-k.ensures.partitioned parted (λ a r q k. search rules) in
    let counted : c.at_least.result ≡ count_by (λ x. leb v x) (take c.partition_point-k.result highs) = c.at_least.ensures ∙ ap (λ n. count_by (λ x. leb v x) (take n highs)) (omega arith) in
    (counted ∙ holders-split v c.partition_point-k.result lows _ (search rules) (search rules) point, omega (arith, counted, count_by-le-length (λ x. leb v x) (take c.partition_point-k.result highs), length-take-le c.partition_point-k.result highs few))
