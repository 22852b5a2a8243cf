use Rattle.std.proofs.Common.{List, ℕ, ◌≡◌, ◌++◌, drop}
use Rattle.world_text.specs.Printed.{lines_text, off_lines}
use Rattle.world_text.proofs.printed.push_off.Given as goal

abbrev pub invariant-loop-tile : goal.invariant-loop-tile
invariant-loop-tile l = record {
  done : l.out.items ++ lines_text (off_lines l.tile (drop l.tile l.map.off)) ≡ l.initial.out.items ++ lines_text (off_lines 0 l.map.off);
  kept : (more : List ℕ) × (l.out.items ≡ l.initial.out.items ++ more);
}
