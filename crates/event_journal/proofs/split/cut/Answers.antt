use Rattle.std.proofs.Common.{ltb, rules, tests}
use Rattle.std.proofs.lemmas.List.Sorted.{IsPartitionPoint-from_clause, IsPartitionedBy-ltb}
use Rattle.cell_grid.specs.declared.record.Record.{Record}
use Rattle.event_journal.proofs.Splitting.{cut_at, stamps_rise}
use Rattle.event_journal.proofs.split.cut.Goals as goal

pub returns : goal.returns
returns c =
    let left = c.args.left.now in
    let stamp = c.args.stamp in
    let point = IsPartitionPoint-from_clause (λ (r : Record). ltb r.stamp stamp) left c.partition_point.result c.partition_point.ensures.partitioned
    (IsPartitionedBy-ltb (λ (r : Record). r.stamp) left stamp (stamps_rise left c.requires)) (λ a r f q. search (rules, tests)) in
    cut_at stamp left c.split_at.result.0.now c.split_at.result.1.now c.partition_point.result c.partition_point.ensures.bound point
    c.split_at.ensures.front c.split_at.ensures.back c.split_at.ensures.by_index.0
