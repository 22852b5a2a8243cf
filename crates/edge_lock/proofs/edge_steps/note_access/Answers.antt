use Rattle.std.proofs.Common.{arith}
use Rattle.edge_lock.proofs.SharedHolds.{notes}
use Rattle.edge_lock.proofs.edge_steps.note_access.Goals as goal

pub load-requires : goal.load-requires
load-requires g c = (c.requires.table.0, omega (arith, c.requires.table.1), notes _ _ _ _ g.B.Said.access c.requires.held c.requires.can)
