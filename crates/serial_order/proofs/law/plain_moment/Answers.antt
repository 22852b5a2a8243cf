use Rattle.serial_order.proofs.Resting.{resting}
use Rattle.serial_order.proofs.law.plain_moment.Goals as goal

pub returns : goal.returns
returns g c board e lower higher r = resting c board e lower higher r
