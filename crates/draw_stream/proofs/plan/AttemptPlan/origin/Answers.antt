use Rattle.std.proofs.Common.{rules}
use Rattle.draw_stream.proofs.plan.AttemptPlan.origin.Goals as goal

pub returns-in-Seeded-clause-value : goal.returns-in-Seeded-clause-value
returns-in-Seeded-clause-value c = search rules
