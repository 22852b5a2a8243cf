use Rattle.std.proofs.Common.{rules}
use Rattle.datum.proofs.Number.new.Goals as goal

pub returns : goal.returns
returns c = search rules
