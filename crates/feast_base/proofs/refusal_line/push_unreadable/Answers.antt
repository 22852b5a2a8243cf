use Rattle.feast_base.proofs.Appending.{Appends-then}
use Rattle.feast_base.proofs.refusal_line.push_unreadable.Goals as goal

pub returns : goal.returns
returns c = Appends-then _ _ _ _ _ c.push-2.result c.in_ok-push.ensures c.push-2.ensures
