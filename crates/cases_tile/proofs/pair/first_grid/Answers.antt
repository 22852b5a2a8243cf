use Rattle.cases_tile.proofs.Pairs.{two_grid}
use Rattle.cases_tile.proofs.pair.first_grid.Goals as goal

pub returns : goal.returns
returns c = two_grid c.args.map.now c.in_ok-start.start c.set.new.self _ c.requires c.in_ok-start.ensures c.set.ensures
