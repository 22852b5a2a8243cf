use Rattle.std.proofs.Common.{rules}
use Rattle.serial_order.proofs.newest.newer_of.Goals as goal

pub returns-then-own-stamp : goal.returns-then-own-stamp
returns-then-own-stamp c = search rules
