use Rattle.element_set.specs.Sets.{set_value}
use Rattle.feast_run.proofs.Sound.{set_brings}
use Rattle.feast_run.proofs.settings.with_set.Goals as goal

pub with_elements-requires-clause-brings : goal.with_elements-requires-clause-brings
with_elements-requires-clause-brings c = set_brings (set_value c.args.set)
