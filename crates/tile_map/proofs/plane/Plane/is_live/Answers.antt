use Rattle.std.proofs.Common.{rules, tests}
use Rattle.tile_map.proofs.plane.Plane.is_live.Goals as goal

pub returns-then-y-self : goal.returns-then-y-self
returns-then-y-self c = search (tests, rules)
