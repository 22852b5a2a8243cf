use Rattle.std.proofs.Common.{◌∙◌, ap, sym}
use Rattle.ulam_parse.specs.Reading.{sees_second}
use Rattle.ulam_parse.proofs.take.sees_second.Goals as goal

pub returns-in-Some : goal.returns-in-Some
returns-in-Some c = c.sees.ensures ∙ sym (ap (sees_second c.args.symbol) c.in-Some.ensures.some)
