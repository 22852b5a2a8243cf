use Rattle.tile_map.proofs.PlaneLaws.{pair_rises}
use Rattle.tile_map.proofs.map.Map.ends.Goals as goal

pub returns-clause-rising : goal.returns-clause-rising
returns-clause-rising c =
    (pair_rises c.args.self.now _ c.self.inside.ends.items c.args.edge c.index.result.now c.self.view_is c.self.invariant.0.pairs c.requires c.index.ensures).0

pub returns-clause-tile : goal.returns-clause-tile
returns-clause-tile c =
    (pair_rises c.args.self.now _ c.self.inside.ends.items c.args.edge c.index.result.now c.self.view_is c.self.invariant.0.pairs c.requires c.index.ensures).1
