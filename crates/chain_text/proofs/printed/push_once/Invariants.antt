use Rattle.std.proofs.Common.{List, ℕ, ◌≡◌, ◌++◌, drop, map}
use Rattle.chain_text.specs.Printed.{once_line, lines_text}
use Rattle.chain_text.proofs.printed.push_once.Given as goal

abbrev pub invariant-loop-once : goal.invariant-loop-once
invariant-loop-once l = record {
  done : l.out.items ++ lines_text (map (once_line l.names) (drop l.once-index l.acts)) ≡ l.initial.out.items ++ lines_text (map (once_line l.names) l.acts);
  kept : (more : List ℕ) × (l.out.items ≡ l.initial.out.items ++ more);
}
