-- Lines of a file that are lines of a report in it.
use Rattle.std.specs.Prelude.{ℕ, ◌+◌, ◌<◌, ◌^◌, Option, Some, None}
use Rattle.report_judge.specs.declared.judgement.Judgement.{Judgement}
use Rattle.report_judge.specs.declared.judgement.Judgement.TheVariants.{NoStamped, NoExcused}
use Rattle.report_text.specs.declared.journal_fault.LineFault.{LineFault}
use Rattle.report_text.specs.declared.journal_fault.LineFault.TheVariants.{OutOfTurn}
use Rattle.chain_run.specs.Reading.{fault_behind}

-- a fault of a report as one of the file, before whose lines so many others come
abbrev pub fault_in_file : ℕ → Option (ℕ × LineFault) → Option (ℕ × LineFault)
fault_in_file before None = None
fault_in_file before (Some fault) = Some (before + fault.0, fault_behind before fault.1)

-- the line that is named beside that of the fault, or 0
abbrev pub line_beside : LineFault → ℕ
line_beside (OutOfTurn previous) = previous
line_beside fault = 0

-- the lines of a fault of a report have numbers of 64 bits in the file, too
abbrev pub HasNumbers : ℕ → Option (ℕ × LineFault) → Type 0
HasNumbers before None = Unit {0}
HasNumbers before (Some fault) = (before + fault.0 < 2 ^ 64) × (before + line_beside fault.1 < 2 ^ 64)

-- so has the line of a judgement
abbrev pub HasNumber : ℕ → Judgement → Type 0
HasNumber before (NoStamped line) = before + line < 2 ^ 64
HasNumber before (NoExcused line) = before + line < 2 ^ 64
HasNumber before judgement = Unit {0}
