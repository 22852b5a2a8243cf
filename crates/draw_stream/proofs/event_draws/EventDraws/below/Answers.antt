use Rattle.std.proofs.Common.{rules}
use Rattle.draw_stream.specs.Words.{event_step, event_state}
use Rattle.draw_stream.proofs.event_draws.EventDraws.below.Goals as goal

pub returns-clause-moved : goal.returns-clause-moved
unfolding event_step event_state
returns-clause-moved c = search rules

pub returns-clause-after : goal.returns-clause-after
unfolding event_step event_state
returns-clause-after c = search rules
