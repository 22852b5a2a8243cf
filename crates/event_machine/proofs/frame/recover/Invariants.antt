use Rattle.std.specs.Prelude.{◌≡◌, ◌+◌, vec_len, vec_capacity}
use Rattle.event_machine.proofs.frame.recover.Given as goal

abbrev pub invariant-loop-frame : goal.invariant-loop-frame
invariant-loop-frame l = record {
  sum : vec_len l.waiting + vec_len l.spare ≡ vec_len l.initial.waiting + vec_len l.initial.spare;
  waiting_room : vec_capacity l.waiting ≡ vec_capacity l.initial.waiting;
  spare_room : vec_capacity l.spare ≡ vec_capacity l.initial.spare;
}

abbrev pub decreases-loop-frame : goal.decreases-loop-frame
decreases-loop-frame l = vec_len l.waiting
