use Rattle.std.proofs.Common.{◌≡◌, ◌+◌, drop, length}
use Rattle.event_journal.specs.Logs.{abandoned_in}
use Rattle.event_journal.proofs.journal.count_abandoned.Given as goal

abbrev pub invariant-loop-log : goal.invariant-loop-log
invariant-loop-log l = l.count + length (abandoned_in (drop l.log-index l.logs)) ≡ length (abandoned_in l.logs)
