use denote.Param.Send.{sendable}
use Rattle.element_set.proofs.Sharing.{set_sync}
use Rattle.element_set.proofs.crossing.set_is_shared.Goals as goal

pub shares-requires-sync-T : goal.shares-requires-sync-T
shares-requires-sync-T c κs = search (sendable, set_sync) depth 6
