-- The failures of events by their numbers.
use Rattle.std.specs.Prelude.{ℕ, ◌≤◌}

-- the numbers of failures
pub record IsFailure (n : ℕ) : Type 0 where
  pub least : 1 ≤ n
  pub most : n ≤ 7
