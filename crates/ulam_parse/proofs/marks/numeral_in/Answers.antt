use Rattle.ulam_parse.proofs.Orders.{numeral_is}
use Rattle.ulam_parse.proofs.marks.numeral_in.Goals as goal

pub returns-in-Number-clause-value : goal.returns-in-Number-clause-value
returns-in-Number-clause-value c = λ e. (numeral_is c.args.text.now _ _ c.numeral_of.ensures).0

pub returns-in-Number-clause-unsigned : goal.returns-in-Number-clause-unsigned
returns-in-Number-clause-unsigned c = λ e. (numeral_is c.args.text.now _ _ c.numeral_of.ensures).1
