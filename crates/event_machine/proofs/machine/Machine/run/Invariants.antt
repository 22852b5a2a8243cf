use Rattle.stack_code.proofs.Typed.{measure}
use Rattle.event_machine.proofs.Running.{Ahead}
use Rattle.event_machine.proofs.machine.Machine.run.Given as goal

abbrev pub invariant-loop-steps : goal.invariant-loop-steps
invariant-loop-steps g l = Ahead g.L.Ledger.noted l.code l.fn.self l.self l.fn.steps (record l.steps { count = l.count })

abbrev pub decreases-loop-steps : goal.decreases-loop-steps
decreases-loop-steps g l = measure l.code l.self
