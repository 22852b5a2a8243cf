use denote.Param.Send.{sendable}
use Rattle.std.proofs.Crossing.{crosses}
use Rattle.event_machine.proofs.machine.Machine.TheSendSync as Machine
use Rattle.code_file.proofs.set.CodeSet.TheSendSync as CodeSet
use Rattle.code_file.proofs.crossing.actor_is_sent.Goals as goal

pub sends-requires-send-T : goal.sends-requires-send-T
sends-requires-send-T c κs = search (sendable, crosses, CodeSet.the_sync, Machine.the_send) depth 12
