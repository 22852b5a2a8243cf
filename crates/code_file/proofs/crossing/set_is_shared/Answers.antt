use denote.Param.Send.{sendable}
use Rattle.std.proofs.Crossing.{crosses}
use Rattle.code_file.proofs.set.CodeSet.TheSendSync as CodeSet
use Rattle.code_file.proofs.crossing.set_is_shared.Goals as goal

pub shares-requires-sync-T : goal.shares-requires-sync-T
shares-requires-sync-T c κs = search (sendable, crosses, CodeSet.the_sync) depth 6
