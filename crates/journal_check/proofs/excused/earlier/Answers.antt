use Rattle.std.proofs.Common.{rules, tests}
use Rattle.std.proofs.lemmas.List.Sorted.{IsPartitionPoint-from_clause}
use Rattle.journal_check.specs.Excuses.{is_earlier}
use Rattle.journal_check.proofs.Splits.{earlier_first}
use Rattle.journal_check.proofs.excused.earlier.Goals as goal

pub returns-clause-before : goal.returns-clause-before
returns-clause-before c =
    (IsPartitionPoint-from_clause (is_earlier c.args.tile c.args.attempt) c.args.abandoned.now c.partition_point.result c.partition_point.ensures.partitioned
    (earlier_first c.args.abandoned.now c.args.tile c.args.attempt c.requires) (λ a r f q. search (rules, tests))).0

pub returns-clause-from : goal.returns-clause-from
returns-clause-from c =
    (IsPartitionPoint-from_clause (is_earlier c.args.tile c.args.attempt) c.args.abandoned.now c.partition_point.result c.partition_point.ensures.partitioned
    (earlier_first c.args.abandoned.now c.args.tile c.args.attempt c.requires) (λ a r f q. search (rules, tests))).1
