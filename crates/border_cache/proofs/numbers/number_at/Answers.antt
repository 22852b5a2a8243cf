use Rattle.border_cache.proofs.Numbered.{numbered}
use Rattle.border_cache.proofs.numbers.number_at.Goals as goal

pub returns : goal.returns
returns c = numbered c.args.row c.args.column c.requires
