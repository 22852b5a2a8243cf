use Rattle.std.proofs.Common.{arith}
use Rattle.edge_lock.proofs.PlainRules as keeps
use Rattle.edge_lock.proofs.plain_steps.note_access.Goals as goal

pub load-requires : goal.load-requires
load-requires g c = (c.requires.seat.0, omega (arith, c.requires.words), keeps.notes _ _ _ g.B.Said.access c.requires.seat.1 c.requires.may)
