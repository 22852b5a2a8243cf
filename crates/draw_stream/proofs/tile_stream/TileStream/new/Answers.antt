use Rattle.std.proofs.Common.{rules}
use Rattle.draw_stream.specs.Words.{tile_state}
use Rattle.draw_stream.proofs.tile_stream.TileStream.new.Goals as goal

pub returns : goal.returns
unfolding tile_state
returns c = search rules
