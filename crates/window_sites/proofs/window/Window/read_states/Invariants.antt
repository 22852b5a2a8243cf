use Rattle.std.specs.Prelude.{ℕ, ◌<◌, ◌^◌}
use Rattle.window_sites.specs.Window.{atom_at}
use Rattle.window_sites.proofs.window.Window.read_states.Given as goal

abbrev pub invariant-loop-n : goal.invariant-loop-n
invariant-loop-n l = (k : ℕ) → k < l.n → (atom_at l.self k).state < 2 ^ 71
