use Rattle.std.proofs.Common.{rules}
use Rattle.ulam_parse.specs.Statements.{step_part}
use Rattle.ulam_parse.proofs.head.step_part.Goals as goal

pub returns : goal.returns
unfolding step_part
returns c = search rules
