use Rattle.std.proofs.Common.{refl}
use Rattle.edge_lock.proofs.plain_board.PlainBoard.turn_to.Goals as goal

pub returns-clause-acting : goal.returns-clause-acting
returns-clause-acting c = refl
