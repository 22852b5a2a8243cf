use Rattle.std.proofs.Common.{◌≡◌, ◌++◌, drop, map}
use Rattle.event_journal.specs.Logs.{records_of}
use Rattle.event_journal.specs.Keys.{lists_behind}
use Rattle.event_journal.proofs.merge.records_of_all.Given as goal

abbrev pub invariant-loop-log : goal.invariant-loop-log
invariant-loop-log l = lists_behind l.lefts.items ++ map records_of (drop l.log-index l.logs) ≡ map records_of l.logs
