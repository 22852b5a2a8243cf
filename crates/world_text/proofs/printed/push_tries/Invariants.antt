use Rattle.std.proofs.Common.{List, ℕ, ◌≡◌, ◌++◌, length, map}
use Rattle.world_text.specs.Printed.{lines_text, try_line}
use Rattle.world_text.proofs.printed.push_tries.Given as goal

abbrev pub invariant-loop-attempt : goal.invariant-loop-attempt
invariant-loop-attempt l = record {
  done : l.out.items ++ lines_text (map (try_line l.plane l.tile) l.attempts) ≡ l.initial.out.items ++ lines_text (map (try_line l.plane l.tile) l.fn.attempts);
  kept : (more : List ℕ) × (l.out.items ≡ l.initial.out.items ++ more);
}

abbrev pub decreases-loop-attempt : goal.decreases-loop-attempt
decreases-loop-attempt l = length l.attempts
