-- The number in an option, or 0.
use Rattle.std.specs.Prelude.{ℕ, Option, Some, None}

-- the number, or 0 if there is none
abbrev pub or_zero : Option ℕ → ℕ
or_zero None = 0
or_zero (Some n) = n
