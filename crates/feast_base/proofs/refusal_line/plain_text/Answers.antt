use Rattle.std.proofs.Common.{rules}
use Rattle.feast_base.specs.Refusals.{plain_text}
use Rattle.feast_base.proofs.refusal_line.plain_text.Goals as goal

pub returns-in-56 : goal.returns-in-56
unfolding plain_text
returns-in-56 c = search rules
