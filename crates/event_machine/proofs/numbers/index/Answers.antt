use Rattle.std.proofs.Common.{rules}
use Rattle.event_machine.proofs.numbers.index.Goals as goal

pub returns-else-v-from-clause-within : goal.returns-else-v-from-clause-within
returns-else-v-from-clause-within c = search rules
