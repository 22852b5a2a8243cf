use Rattle.std.proofs.Common.{refl}
use Rattle.code_gen.proofs.Making.{made_is}
use Rattle.code_gen.proofs.expr.pair.Goals as goal

pub returns-in_ok-choice-in-Both : goal.returns-in_ok-choice-in-Both
returns-in_ok-choice-in-Both c = made_is _ _ _ (rw (c.in-Both.is, c.in_ok-choice-in-Both.ensures) refl) c.seq.ensures
