use Rattle.std.proofs.Common.{rules}
use Rattle.report_text.proofs.placing.not_later.Goals as goal

pub returns-then-cursor-attempt-clause-value : goal.returns-then-cursor-attempt-clause-value
returns-then-cursor-attempt-clause-value c = search rules

pub returns-then-cursor-attempt-clause-passed : goal.returns-then-cursor-attempt-clause-passed
returns-then-cursor-attempt-clause-passed c = search rules

pub returns-else-cursor-attempt-clause-value : goal.returns-else-cursor-attempt-clause-value
returns-else-cursor-attempt-clause-value c = search rules
