-- Why a stage stops, by the fault of a text.
use Rattle.std.specs.Prelude.{ℕ, ◌≡◌, List, Option, Some, None}
use Rattle.report_text.specs.declared.journal_fault.LineFault.{LineFault}
use Rattle.code_file.specs.declared.fault.CodeFault.{CodeFault}
use Rattle.code_file.specs.declared.fault.CodeFault.TheVariants.{BadMagic, BadForm, NotValid, SameName, NoMemory as no_memory}
use Rattle.feast_run.specs.CodeFiles.{code_refused}
use Rattle.feast_run.specs.Halting.{RefusedValue}
use Rattle.feast_run.specs.Stages.{journal_refused, world_refused}
use Rattle.feast_run.specs.Tellings.{refused_value}
use Rattle.feast_run.specs.declared.halt.Halt.{Halt}
use Rattle.feast_run.specs.declared.halt.Halt.TheVariants.{Refused, Missing, NoMemory}
use Rattle.element_set.specs.Sets.{Coded}

-- it is this refusal, whose code has a text
abbrev pub IsHalt : RefusedValue → Halt → Type 0
IsHalt r (Refused s) = (refused_value s ≡ r) × Coded r.refusal.code
IsHalt r (Missing word) = ⊥
IsHalt r NoMemory = ⊥

-- memory ran out
abbrev pub IsOutOfMemory : Halt → Type 0
IsOutOfMemory (Refused s) = ⊥
IsOutOfMemory (Missing word) = ⊥
IsOutOfMemory NoMemory = Unit {0}

-- it is the refusal by a fault, or memory ran out
abbrev pub IsWorldHalt : List ℕ → Option (ℕ × ℕ) → Halt → Type 0
IsWorldHalt word None halt = IsOutOfMemory halt
IsWorldHalt word (Some fault) halt = IsHalt (world_refused word fault) halt

abbrev pub IsJournalHalt : List ℕ → Option (ℕ × LineFault) → Halt → Type 0
IsJournalHalt word None halt = IsOutOfMemory halt
IsJournalHalt word (Some fault) halt = IsHalt (journal_refused word fault) halt

abbrev pub IsCodeHalt : List ℕ → CodeFault → Halt → Type 0
IsCodeHalt word BadMagic halt = IsHalt (code_refused word 61 1) halt
IsCodeHalt word (BadForm column) halt = IsHalt (code_refused word 62 column) halt
IsCodeHalt word (NotValid column) halt = IsHalt (code_refused word 63 column) halt
IsCodeHalt word (SameName column) halt = IsHalt (code_refused word 64 column) halt
IsCodeHalt word no_memory halt = IsOutOfMemory halt
