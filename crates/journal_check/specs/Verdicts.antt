-- What the verdict on a report says.
use Rattle.std.specs.Prelude.{List}
use Rattle.cell_grid.specs.declared.record.Record.{Record}
use Rattle.event_journal.specs.Accounts.{IsAccounted, IsStamped}
use Rattle.event_journal.specs.Serial.{Course, IsSerial}
use Rattle.event_journal.specs.declared.abandoned.Abandoned.{Abandoned}
use Rattle.journal_check.specs.Clocks.{IsFirstMisstamped}
use Rattle.journal_check.specs.Excuses.{IsFirstUnexcused}
use Rattle.journal_check.specs.declared.verdict.Verdict.{Verdict}
use Rattle.journal_check.specs.declared.verdict.Verdict.TheVariants.{Yes, NotAccounted, NotStamped, NotExcused}

-- yes: the events of the report stand in one serial order, with this grid. Otherwise the first that
-- does not hold: each attempt is accounted for, each event has its stamp, each abandoned attempt is
-- excused; with its first event or abandoned attempt.
abbrev pub IsVerdict : Course → List Record → List Abandoned → Verdict → Type 0
IsVerdict c records abandoned (Yes grid) = IsSerial c grid records abandoned
IsVerdict c records abandoned NotAccounted = ¬ (IsAccounted c.map c.plan records abandoned)
IsVerdict c records abandoned (NotStamped k) = IsAccounted c.map c.plan records abandoned × IsFirstMisstamped c.map records k
IsVerdict c records abandoned (NotExcused k) = IsAccounted c.map c.plan records abandoned × IsStamped c.map records × IsFirstUnexcused c.map c.plan records abandoned k
