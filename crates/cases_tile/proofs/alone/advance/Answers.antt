use Rattle.std.proofs.Common.{◌∙◌, subst}
use Rattle.edge_lock.specs.PlainBoard.{acting_end, lists_on}
use Rattle.cell_grid.specs.Tried.{after_turn}
use Rattle.border_cache.proofs.Stored.{end_stays}
use Rattle.tile_core.specs.Underway.{tile_at, GoesOn}
use Rattle.cases_tile.proofs.alone.advance.Goals as goal

pub returns-clause-alone : goal.returns-clause-alone
returns-clause-alone c =
    let m = c.args.map.now in
    let i = c.requires in
    let e = c.advance.ensures in
    let u = i.underway in
    let on = subst (λ k. GoesOn k after_turn (tile_at c.args.tile.now.core (lists_on c.args.board.now)) (tile_at c.advance.new.self.core (lists_on c.advance.new.board))) i.map e.on in
    record {
      map = e.map ∙ i.map;
      end = end_stays m c.args.tile.now.core.number c.advance.new.self.core.number (acting_end c.args.board.now) (acting_end c.advance.new.board) e.number e.same i.end;
      underway = (u.0, u.1, (on u.0 u.1 u.2).0);
    }
