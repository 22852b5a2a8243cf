use Rattle.feast_run.proofs.Ended.{ends_of}
use Rattle.feast_run.proofs.top.call.Goals as goal

pub returns-in-Ok-clause-ends : goal.returns-in-Ok-clause-ends
returns-in-Ok-clause-ends g c = ends_of _ _ _ c.in-Ok.reply c.put.result c.in-Ok.ensures.says c.put.ensures
