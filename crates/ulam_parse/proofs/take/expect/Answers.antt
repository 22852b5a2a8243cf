use Rattle.std.proofs.Common.{sym, ◌∙◌}
use Rattle.ulam_parse.proofs.Tells.{same_is}
use Rattle.ulam_parse.proofs.take.expect.Goals as goal

pub returns-then-same-clause-symbol : goal.returns-then-same-clause-symbol
returns-then-same-clause-symbol c = same_is _ _ (sym c.same.ensures ∙ c.if-same.true)
