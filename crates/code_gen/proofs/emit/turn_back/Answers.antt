use Rattle.std.proofs.Common.{append_assoc}
use Rattle.code_gen.proofs.emit.turn_back.Goals as goal

pub returns-clause-ok : goal.returns-clause-ok
returns-clause-ok c = rw append_assoc at (rw c.in_ok-put.ensures.ok at c.put-2.ensures.ok)
