use Rattle.std.proofs.Common.{arith}
use Rattle.feast_run.proofs.Sound.{codes_bring, codes_many}
use Rattle.feast_run.proofs.settings.with_codes.Goals as goal

pub with_elements-requires-clause-few : goal.with_elements-requires-clause-few
with_elements-requires-clause-few c = omega (arith, codes_many c.args.set, c.requires.few)

pub with_elements-requires-clause-brings : goal.with_elements-requires-clause-brings
with_elements-requires-clause-brings c = codes_bring c.args.set c.requires
