use Rattle.std.proofs.Common.{rules, arith}
use Rattle.draw_stream.proofs.Places.{attempt_in_place}
use Rattle.draw_stream.proofs.tile_stream.TileStream.attempt.Goals as goal

pub returns-clause-value : goal.returns-clause-value
returns-clause-value c = search rules

pub returns-clause-place : goal.returns-clause-place
returns-clause-place c = grind (arith, attempt_in_place)
