use Rattle.std.proofs.Common.{◌∙◌, subst}
use Rattle.edge_lock.specs.PlainBoard.{acting_end, lists_on}
use Rattle.cell_grid.specs.Tried.{after_turn}
use Rattle.border_cache.proofs.Stored.{end_stays}
use Rattle.tile_core.specs.Underway.{tile_at, GoesFar}
use Rattle.cases_tile.proofs.alone.attempt.Goals as goal

pub returns-in-Draw-clause-alone : goal.returns-in-Draw-clause-alone
returns-in-Draw-clause-alone c =
    let m = c.args.map.now in
    let i = c.requires in
    let e = c.attempt_whole.ensures in
    let u = i.underway in
    let far = subst (λ k. GoesFar k after_turn (tile_at c.args.tile.now.core (lists_on c.args.board.now)) (tile_at c.attempt_whole.new.self.core (lists_on c.attempt_whole.new.board))) i.map e.far in
    record {
      map = e.map ∙ i.map;
      end = end_stays m c.args.tile.now.core.number c.attempt_whole.new.self.core.number (acting_end c.args.board.now) (acting_end c.attempt_whole.new.board) e.number e.same i.end;
      underway = (u.0, u.1, far u.0 u.1 u.2);
    }
