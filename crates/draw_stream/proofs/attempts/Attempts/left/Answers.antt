use Rattle.std.proofs.Common.{arith}
use Rattle.std.proofs.lemmas.Grind.{common_steps}
use Rattle.draw_stream.proofs.attempts.Attempts.left.Goals as goal

pub returns-in-Listed : goal.returns-in-Listed
returns-in-Listed c = grind (arith, common_steps)
