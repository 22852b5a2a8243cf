use Rattle.std.proofs.Common.{◌≡◌, ◌+◌, drop, length}
use Rattle.std.specs.Prelude.{flat_map}
use Rattle.event_journal.specs.Logs.{records_of}
use Rattle.event_journal.proofs.journal.count_records.Given as goal

abbrev pub invariant-loop-log : goal.invariant-loop-log
invariant-loop-log l = l.count + length (flat_map records_of (drop l.log-index l.logs)) ≡ length (flat_map records_of l.logs)
