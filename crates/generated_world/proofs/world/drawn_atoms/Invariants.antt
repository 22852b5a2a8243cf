use Rattle.std.proofs.Common.{◌≡◌, ◌*◌}
use Rattle.draw_stream.specs.Words.{tile_state}
use Rattle.generated_world.specs.Generated.{drawn_atoms}
use Rattle.generated_world.proofs.world.drawn_atoms.Given as goal

abbrev pub invariant-loop-pair : goal.invariant-loop-pair
invariant-loop-pair l = record {
  stream : l.stream ≡ tile_state l.seed (2 * l.pair);
  atoms : l.atoms.items ≡ drawn_atoms l.seed (2 * l.pair);
}
