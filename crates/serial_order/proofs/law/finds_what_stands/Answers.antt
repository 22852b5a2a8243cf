use Rattle.serial_order.proofs.Promises.{finds_what_stands}
use Rattle.serial_order.proofs.law.finds_what_stands.Goals as goal

pub returns : goal.returns
returns g sites = finds_what_stands sites
