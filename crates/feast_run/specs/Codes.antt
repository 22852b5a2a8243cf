-- The exit status of each status.
use Rattle.std.specs.Prelude.{ℕ}
use Rattle.feast_run.specs.declared.status.Status.{Status}
use Rattle.feast_run.specs.declared.status.Status.TheVariants.{Done, Usage, Unreadable, ElementRefused, WorldRefused, JournalRefused, SinkFault, NoMemory, CodeRefused}

abbrev pub code_of : Status → ℕ
code_of Done = 0
code_of Usage = 2
code_of Unreadable = 3
code_of ElementRefused = 4
code_of WorldRefused = 5
code_of JournalRefused = 6
code_of SinkFault = 7
code_of NoMemory = 8
code_of CodeRefused = 9
