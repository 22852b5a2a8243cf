-- The failures of events by their numbers.
use Rattle.std.proofs.Common.{ℕ, ◌≤◌}
use Rattle.datum.specs.Failures.{IsFailure}

pub is_failure : (n : ℕ) → 1 ≤ n → n ≤ 7 → IsFailure n
is_failure n l m = record { least = l; most = m }
