-- Truth values as numbers.
use Rattle.std.specs.Prelude.{ℕ, Bool, true, false}

-- 1 or 0
abbrev pub digit : Bool → ℕ
digit true = 1
digit false = 0
