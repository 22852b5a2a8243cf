use Rattle.std.proofs.Common.{arith}
use Rattle.window_sites.proofs.States.{states_all}
use Rattle.window_sites.proofs.window.Window.read_states.Goals as goal

pub returns : goal.returns
returns c = states_all c.args.self.now c.loop-n.n (omega (arith, c.requires.atoms, c.loop-n-test.false)) c.loop-n.invariant
