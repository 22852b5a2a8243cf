-- How events end.
use Rattle.std.specs.Prelude.{ℕ, ◌≤◌, Option, Some, None}
use Rattle.event_machine.specs.declared.ending.Ended.{Ended}
use Rattle.event_machine.specs.declared.ending.Ended.TheVariants.{Done, Failed}

-- the number of an ending: None, or a failure's number
abbrev pub ending_number : Ended → Option ℕ
ending_number Done = None
ending_number (Failed n) = Some n

-- the end, or a failure that has a number from 1 to 7
abbrev pub IsEnding : Ended → Type 0
IsEnding Done = Unit {0}
IsEnding (Failed n) = (1 ≤ n) × (n ≤ 7)
