use Rattle.std.proofs.Common.{arith, ap, length}
use Rattle.tile_map.proofs.Pairs.{pairs_bounded}
use Rattle.tile_map.proofs.map.Map.edges.Goals as goal

pub overflow_cast-result : goal.overflow_cast-result
overflow_cast-result c = omega (arith, c.len.ensures, ap length c.self.invariant.0.pairs, pairs_bounded _ c.self.invariant.0.valid)
