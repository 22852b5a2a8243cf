use Rattle.std.proofs.Common.{ltb, rules, tests, ltb-true}
use Rattle.std.proofs.lemmas.List.Sorted.{IsPartitionPoint-from_clause, IsPartitionedBy-ltb}
use Rattle.event_journal.specs.declared.abandoned.Abandoned.{Abandoned}
use Rattle.journal_check.proofs.OwnEntries.{tiles_rise}
use Rattle.journal_check.proofs.Splits.{test_more}
use Rattle.journal_check.proofs.by_tile.below_tile.Goals as goal

pub returns : goal.returns
returns c =
    let gs = c.args.abandoned.now in
    let t = c.args.tile in
    let p = IsPartitionPoint-from_clause (λ (y : Abandoned). ltb y.tile t) gs c.partition_point.result c.partition_point.ensures.partitioned
    (IsPartitionedBy-ltb (λ (y : Abandoned). y.tile) gs t (tiles_rise gs c.requires)) (λ a r f q. search (rules, tests)) in
    record {
      bound = c.partition_point.ensures.bound;
      before = λ k d low high. ltb-true _ _ (p.0 k d low high);
      from = λ k d low high. test_more _ _ (p.1 k d low high);
    }
