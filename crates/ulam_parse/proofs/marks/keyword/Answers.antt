use Rattle.ulam_parse.specs.Tokens.{keywords}
use Rattle.ulam_parse.proofs.marks.keyword.Goals as goal

pub returns : goal.returns
unfolding keywords
returns c = c.symbol_in.ensures
