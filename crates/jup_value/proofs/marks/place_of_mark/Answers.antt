use Rattle.std.proofs.Common.{ltb, rules}
use Rattle.std.proofs.lemmas.List.Sorted.{IsPartitionPoint-from_clause, IsPartitionedBy-ltb}
use Rattle.jup_value.proofs.MarkLists.{sites_rise, point_below}
use Rattle.jup_value.proofs.marks.place_of_mark.Goals as goal

pub returns-clause-place : goal.returns-clause-place
returns-clause-place c =
    let parted = IsPartitionedBy-ltb (λ m. m.site) c.args.marks.now c.args.site (sites_rise c.args.marks.now c.requires) in
    let point = IsPartitionPoint-from_clause (λ m. ltb m.site c.args.site) _ _ c.partition_point.ensures.partitioned parted (λ a r q k. search rules) in
    point_below c.args.site c.args.marks.now _ c.partition_point.ensures.bound point.0 point.1
