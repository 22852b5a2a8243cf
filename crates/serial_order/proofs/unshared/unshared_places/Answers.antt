use Rattle.std.proofs.Common.{rules, tests}
use Rattle.serial_order.proofs.unshared.unshared_places.Goals as goal

pub returns-then-end-length-clause-from : goal.returns-then-end-length-clause-from
returns-then-end-length-clause-from c = search (rules, tests)

pub returns-else-end-length-clause-from : goal.returns-else-end-length-clause-from
returns-else-end-length-clause-from c = search (rules, tests)
