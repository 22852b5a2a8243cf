use Rattle.serial_order.proofs.SmallRun.{small_run}
use Rattle.serial_order.proofs.law.small_run.Goals as goal

pub returns : goal.returns
returns g = small_run
