use Rattle.std.proofs.Common.{arith}
use Rattle.event_machine.proofs.machine.frames.Goals as goal

pub loop-alloc-preserved : goal.loop-alloc-preserved
loop-alloc-preserved c = record {
  len = omega arith;
  room = omega arith;
}

pub push_reserved-requires : goal.push_reserved-requires
push_reserved-requires c = omega arith
