use Rattle.std.proofs.Common.{ltb, rules, tests, ltb-true}
use Rattle.std.proofs.lemmas.List.Sorted.{IsPartitionPoint-from_clause, IsPartitionedBy-ltb}
use Rattle.journal_check.specs.declared.mark.Mark.{Mark}
use Rattle.journal_check.proofs.Splits.{attempts_rise, test_more}
use Rattle.journal_check.proofs.excused.behind.Goals as goal

pub returns : goal.returns
returns c =
    let marks = c.args.marks.now in
    let t = c.args.attempt in
    let p = IsPartitionPoint-from_clause (λ (y : Mark). ltb y.attempt t) marks c.partition_point.result c.partition_point.ensures.partitioned
    (IsPartitionedBy-ltb (λ (y : Mark). y.attempt) marks t (attempts_rise marks c.requires)) (λ a r f q. search (rules, tests)) in
    record {
      bound = c.partition_point.ensures.bound;
      before = λ k d low high. ltb-true _ _ (p.0 k d low high);
      from = λ k d low high. test_more _ _ (p.1 k d low high);
    }
