use Rattle.std.proofs.Common.{rules}
use Rattle.text_lines.specs.Lines.{without_cr}
use Rattle.text_lines.proofs.cut.without_cr.Goals as goal

pub returns-then-line-len-eq13 : goal.returns-then-line-len-eq13
unfolding without_cr
returns-then-line-len-eq13 c = search rules
