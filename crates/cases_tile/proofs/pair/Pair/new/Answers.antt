use Rattle.cell_grid.specs.Tried.{after_turn}
use Rattle.tile_core.proofs.Boards.{board_new, fresh_there}
use Rattle.cases_tile.proofs.pair.Pair.new.Goals as goal

pub returns : goal.returns
returns c =
    let m = c.in_ok-map.map in
    let b = c.in_ok-plain.plain in
    let made = c.in_ok-plain.ensures.edges in
    let x = c.in_ok-left.ensures.0 in
    let y = c.in_ok-left.ensures.1 in
    record {
      map = c.in_ok-map.ensures;
      edges = board_new m b made;
      lower = record { map = x.2.map; underway = (x.0, x.1, fresh_there m b made after_turn 0 x.0 x.1 c.in_ok-left.left.core x.2) };
      higher = record { map = y.2.map; underway = (y.0, y.1, fresh_there m b made after_turn 1 y.0 y.1 c.in_ok-left.right.core y.2) };
      lower_number = x.2.number;
      higher_number = y.2.number;
    }
