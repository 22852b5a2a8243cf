use Rattle.std.proofs.Common.{rules}
use Rattle.journal_check.proofs.by_tile.TileEvents.push.Goals as goal

pub returns : goal.returns
returns c = search rules
