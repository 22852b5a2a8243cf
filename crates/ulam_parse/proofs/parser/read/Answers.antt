use Rattle.std.proofs.Common.{rules, arith}
use Rattle.std.proofs.lemmas.Grind.{common_steps}
use Rattle.ulam_parse.specs.Tokens.{toks}
use Rattle.ulam_parse.proofs.Orders.{order_sound, order_ends}
use Rattle.ulam_parse.proofs.Laws.{ends_moved}
use Rattle.ulam_parse.proofs.parser.read.Goals as goal

pub marks_of-requires : goal.marks_of-requires
marks_of-requires c = order_sound c.args.bytes.now 0 c.args.tokens.now c.requires

pub judge-requires : goal.judge-requires
judge-requires c = ends_moved _ (toks c.args.bytes.now c.args.tokens.now) (first_of (search rules, grind (arith, common_steps))) (order_ends c.args.bytes.now 0 c.args.tokens.now c.requires)
