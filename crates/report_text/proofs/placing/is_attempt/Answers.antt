use Rattle.std.proofs.Common.{rules}
use Rattle.report_text.proofs.placing.is_attempt.Goals as goal

pub returns-then-y-r : goal.returns-then-y-r
returns-then-y-r c = search rules
