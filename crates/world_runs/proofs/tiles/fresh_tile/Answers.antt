use Rattle.std.proofs.Common.{IfOk, sym, subst}
use Rattle.tile_core.specs.Underway.{CanAttempt, IsFreshTile}
use Rattle.tile_core.specs.Values.{atoms_of}
use Rattle.world_runs.proofs.tiles.fresh_tile.Goals as goal

pub new-requires-clause-attempts : goal.new-requires-clause-attempts
new-requires-clause-attempts g c = subst (CanAttempt c.args.map.now c.args.tile) (sym c.in_ok-attempts.ensures.value) c.requires.can

pub returns-clause-fresh : goal.returns-clause-fresh
returns-clause-fresh g c = subst (λ list. IfOk c.new.result (λ t. IsFreshTile c.args.map.now c.args.tile (atoms_of c.args.start.now) list t.core)) c.in_ok-attempts.ensures.value c.new.ensures.fresh
