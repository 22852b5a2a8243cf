use Rattle.std.proofs.Common.{◌≡◌, drop}
use Rattle.feast_base.specs.Held.{kept_at}
use Rattle.feast_base.proofs.mem_sink.kept_at.Given as goal

abbrev pub invariant-loop-stop : goal.invariant-loop-stop
invariant-loop-stop l = kept_at l.call (drop l.stop-index l.stops) ≡ kept_at l.call l.stops
