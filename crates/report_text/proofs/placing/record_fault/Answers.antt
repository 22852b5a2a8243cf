use Rattle.std.proofs.Common.{arith}
use Rattle.std.proofs.lemmas.Grind.{common_steps}
use Rattle.report_text.specs.Reading.{record_fault}
use Rattle.report_text.proofs.placing.record_fault.Goals as goal

pub returns-in-Some-clause-fault : goal.returns-in-Some-clause-fault
unfolding record_fault
returns-in-Some-clause-fault c = grind (arith, common_steps)

pub returns-in-None-clause-fault : goal.returns-in-None-clause-fault
unfolding record_fault
returns-in-None-clause-fault c = grind (arith, common_steps)
