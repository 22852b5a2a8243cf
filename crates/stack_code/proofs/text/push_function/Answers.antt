use Rattle.feast_base.proofs.Appending.{Appends-then}
use Rattle.stack_code.proofs.text.push_function.Goals as goal

pub returns : goal.returns
returns c = Appends-then _ _ _ _ _ _ c.in_ok-push_head.ensures (rw (c.between.ensures, c.instrs.ensures, c.first-first.ensures) at c.push_instrs.ensures)
