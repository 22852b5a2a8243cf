use Rattle.serial_order.proofs.Boards.{over, words}
use Rattle.serial_order.proofs.law.plain_run.Goals as goal

pub returns : goal.returns
returns g c tiles board h = (over c tiles board h, words c.map board h.edges)
