use Rattle.std.proofs.Common.{arith}
use Rattle.std.proofs.lemmas.Grind.{common_steps}
use Rattle.event_journal.proofs.tournament.Tournament.new.Goals as goal

pub play_all-requires : goal.play_all-requires
play_all-requires c = grind (arith, common_steps)

pub returns : goal.returns
returns c = grind (arith, common_steps)
