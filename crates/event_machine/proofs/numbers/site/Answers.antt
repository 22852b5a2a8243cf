use Rattle.std.proofs.Common.{rules}
use Rattle.event_machine.proofs.numbers.site.Goals as goal

pub returns-else-v-gt40-clause-within : goal.returns-else-v-gt40-clause-within
returns-else-v-gt40-clause-within c = search rules

pub returns-else-v-gt40-clause-place : goal.returns-else-v-gt40-clause-place
returns-else-v-gt40-clause-place c = search rules
