use Rattle.std.proofs.Common.{List, ℕ, ◌≡◌, ◌++◌, drop, map}
use Rattle.chain_text.specs.Printed.{every_line, lines_text}
use Rattle.chain_text.proofs.printed.push_every.Given as goal

abbrev pub invariant-loop-every : goal.invariant-loop-every
invariant-loop-every l = record {
  done : l.out.items ++ lines_text (map (every_line l.names) (drop l.every-index l.acts)) ≡ l.initial.out.items ++ lines_text (map (every_line l.names) l.acts);
  kept : (more : List ℕ) × (l.out.items ≡ l.initial.out.items ++ more);
}
