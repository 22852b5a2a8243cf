use Rattle.std.proofs.Common.{List, ℕ, ◌≡◌, ◌++◌, drop}
use Rattle.world_text.specs.Printed.{lines_text, try_lines}
use Rattle.world_text.specs.Values.{world_value}
use Rattle.world_text.proofs.printed.push_lists.Given as goal

abbrev pub invariant-loop-tile : goal.invariant-loop-tile
invariant-loop-tile l = record {
  done : l.out.items ++ lines_text (try_lines (world_value l.world).plane l.tile (drop l.tile l.world.plan.lists)) ≡ l.initial.out.items ++ lines_text (try_lines (world_value l.world).plane 0 l.world.plan.lists);
  kept : (more : List ℕ) × (l.out.items ≡ l.initial.out.items ++ more);
}
