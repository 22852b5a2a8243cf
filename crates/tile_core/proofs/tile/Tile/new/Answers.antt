use Rattle.tile_core.proofs.tile.Tile.new.Goals as goal

pub new-requires-clause-attempts : goal.new-requires-clause-attempts
new-requires-clause-attempts g c = c.requires.attempts

pub returns-clause-fresh : goal.returns-clause-fresh
returns-clause-fresh g c = c.in_ok-state.ensures.fresh
