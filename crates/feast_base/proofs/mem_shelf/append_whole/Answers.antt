use Rattle.std.proofs.Common.{rules}
use Rattle.feast_base.proofs.mem_shelf.append_whole.Goals as goal

pub returns : goal.returns
returns c = search rules
