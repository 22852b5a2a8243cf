use Rattle.std.proofs.Common.{rules, tests}
use Rattle.tile_map.proofs.plane.Plane.are_neighbours.Goals as goal

pub returns-then-abs_diff-le1 : goal.returns-then-abs_diff-le1
returns-then-abs_diff-le1 c = search (tests, rules)
