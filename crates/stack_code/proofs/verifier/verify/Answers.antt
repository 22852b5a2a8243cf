use Rattle.std.proofs.Common.{◌∙◌, sym, rules}
use Rattle.stack_code.proofs.verifier.verify.Goals as goal

pub returns-then-branch : goal.returns-then-branch
returns-then-branch c = rw (sym c.in_ok-is_valid.ensures ∙ c.if-branch.true) (search rules)
