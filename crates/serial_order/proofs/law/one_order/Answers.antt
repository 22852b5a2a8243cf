use Rattle.serial_order.proofs.Promises.{one_order}
use Rattle.serial_order.proofs.law.one_order.Goals as goal

pub returns : goal.returns
returns g s = one_order s
