-- The run of a world with a worker for each tile.
use Rattle.feast_run.specs.Owing.{course_of}
use Rattle.feast_run.specs.Stages.{ReadyValue}
use Rattle.serial_order.specs.Outcomes.{StandsInOneOrder}
use Rattle.serial_order.specs.declared.outcome.Outcome.{Outcome}

-- an outcome of a world's run, by what its elements mean, in whatever order its tiles made their
-- steps
abbrev pub IsThreadedOf : ReadyValue → Outcome → Type 0
IsThreadedOf r o = StandsInOneOrder (course_of r) o
