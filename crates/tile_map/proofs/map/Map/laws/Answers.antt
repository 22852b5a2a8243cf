use Rattle.std.proofs.Common.{subst}
use Rattle.tile_map.specs.Laws.{IsPlane}
use Rattle.tile_map.proofs.PlaneLaws.{plane}
use Rattle.tile_map.proofs.map.Map.laws.Goals as goal

pub returns-clause-plane : goal.returns-clause-plane
returns-clause-plane c = subst IsPlane c.self.view_is (plane _ c.self.invariant.0.valid)
