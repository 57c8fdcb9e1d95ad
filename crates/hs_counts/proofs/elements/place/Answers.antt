use Rattle.std.proofs.Common.{rules, of_calls}
use Rattle.std.specs.Int.Signed.{lt_z}
use Rattle.std.proofs.lemmas.List.Sorted.{IsPartitionPoint-from_clause}
use Rattle.hs_counts.proofs.Placed.{placed, rises_parted}
use Rattle.hs_counts.proofs.elements.place.Goals as goal

pub returns-clause-place : goal.returns-clause-place
returns-clause-place c =
    let point = IsPartitionPoint-from_clause (λ e. lt_z e.0 c.args.x) _ _ c.partition_point.ensures.partitioned (rises_parted c.args.x c.args.elements.now c.requires) (λ a r q k. search (rules, of_calls)) in
    λ n. placed c.args.x n c.args.elements.now c.partition_point.result c.partition_point.ensures.bound point.0 point.1
