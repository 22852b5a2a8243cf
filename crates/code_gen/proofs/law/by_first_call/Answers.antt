use Rattle.code_gen.proofs.FirstCalls.{by_first_call}
use Rattle.code_gen.proofs.law.by_first_call.Goals as goal

pub returns : goal.returns
returns c = by_first_call
