use Rattle.std.proofs.Common.{All, take}
use Rattle.event_journal.specs.Logs.{IsLog}
use Rattle.event_journal.proofs.journal.all_laws.Given as goal

abbrev pub invariant-loop-log : goal.invariant-loop-log
invariant-loop-log l = All IsLog (take l.log-index l.logs)
