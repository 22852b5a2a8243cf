use Rattle.std.proofs.Common.{arith}
use Rattle.draw_stream.proofs.Places.{takes_none, next_attempts_none}
use Rattle.draw_stream.proofs.attempts.next_drawn.Goals as goal

pub returns-then-left-eq0 : goal.returns-then-left-eq0
returns-then-left-eq0 c = grind (arith, takes_none, next_attempts_none)
