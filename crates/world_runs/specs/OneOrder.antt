-- The result of the run of a world.
use Rattle.std.specs.Prelude.{ℕ}
use Rattle.serial_order.specs.Outcomes.{StandsInOneOrder}
use Rattle.serial_order.specs.declared.outcome.Outcome.{Outcome}
use Rattle.stepped_world.specs.Ends.{IsOutcome}
use Rattle.window_sites.specs.Window.{WindowValue}
use Rattle.world_runs.specs.Fresh.{world_course}
use Rattle.world_runs.specs.Orders.{order_in}
use Rattle.world_text.specs.Named.{WorldValue}

-- the outcome of the run of a world with a worker for each tile, where events do this: however the
-- steps of its tiles were interleaved, its events stand in one serial order
abbrev pub IsThreadedRun : WorldValue → Outcome → (WindowValue → ℕ → WindowValue) → Type 0
IsThreadedRun w o meaning = StandsInOneOrder (world_course w meaning) o

-- the outcome of the stepped run of a world, where events do this
abbrev pub IsSteppedRun : WorldValue → Outcome → (WindowValue → ℕ → WindowValue) → Type 0
IsSteppedRun w o meaning = IsOutcome (world_course w meaning) (order_in w) o
