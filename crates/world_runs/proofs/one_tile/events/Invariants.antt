use Rattle.std.proofs.Common.{◌≡◌, ◌*◌, ◌<◌, ◌≤◌, ◌+◌, ◌++◌, All, length}
use Rattle.draw_stream.specs.declared.attempt.Attempt.{Attempt}
use Rattle.world_runs.specs.OneTile.{events_from}
use Rattle.world_runs.proofs.one_tile.events.Given as goal

abbrev pub invariant-loop-attempt : goal.invariant-loop-attempt
invariant-loop-attempt g l = record {
  few : l.number + length l.attempts ≤ 1000000;
  centres : All (λ (a : Attempt). a.centre < l.map.w * l.map.h) l.attempts;
  rest : l.records.items ++ events_from l.map l.number l.attempts ≡ events_from l.map 0 l.fn.attempts;
}

abbrev pub decreases-loop-attempt : goal.decreases-loop-attempt
decreases-loop-attempt g l = length l.attempts
