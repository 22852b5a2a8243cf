use Rattle.std.proofs.Common.{rules, tests}
use Rattle.feast_base.proofs.mem_shelf.MemShelfShelf.load.Goals as goal

pub returns-in-None-clause-appends : goal.returns-in-None-clause-appends
returns-in-None-clause-appends c = search (rules, tests)

pub returns-in-None-clause-noted : goal.returns-in-None-clause-noted
returns-in-None-clause-noted c = search (rules, tests)

pub returns-in-None-clause-wherever : goal.returns-in-None-clause-wherever
returns-in-None-clause-wherever c = search (rules, tests)
