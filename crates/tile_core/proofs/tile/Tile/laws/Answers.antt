use Rattle.tile_core.proofs.Played.{played_at_draw, played_at_wear, played_at_end}
use Rattle.tile_core.proofs.tile.Tile.laws.Goals as goal

pub returns-clause-draw : goal.returns-clause-draw
returns-clause-draw g c = let t = c.args.self.now.core in λ meaning start attempts lists u is. played_at_draw t.cache.map meaning start attempts t lists u is

pub returns-clause-worn : goal.returns-clause-worn
returns-clause-worn g c = let t = c.args.self.now.core in λ meaning start attempts lists u is. played_at_wear t.cache.map meaning start attempts t lists u is

pub returns-clause-end : goal.returns-clause-end
returns-clause-end g c = let t = c.args.self.now.core in λ meaning start attempts lists u is. played_at_end t.cache.map meaning start attempts t lists u is
