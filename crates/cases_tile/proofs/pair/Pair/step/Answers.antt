use Rattle.std.proofs.Common.{◌∙◌}
use Rattle.cases_tile.proofs.Pairs.{numbers_apart}
use Rattle.cases_tile.proofs.pair.Pair.step.Goals as goal

pub returns-in-Left : goal.returns-in-Left
returns-in-Left c =
    let r = c.requires in
    let p = c.args.self.now in
    let e = c.advance.ensures in
    record {
      map = r.map;
      edges = e.board;
      lower = e.tile;
      higher = e.others p.right.core (numbers_apart p.left.core.number p.right.core.number r.lower_number r.higher_number).0 r.higher;
      lower_number = e.number ∙ r.lower_number;
      higher_number = r.higher_number;
    }

pub returns-in-Right : goal.returns-in-Right
returns-in-Right c =
    let r = c.requires in
    let p = c.args.self.now in
    let e = c.advance-in-Right.ensures in
    record {
      map = r.map;
      edges = e.board;
      lower = e.others p.left.core (numbers_apart p.left.core.number p.right.core.number r.lower_number r.higher_number).1 r.lower;
      higher = e.tile;
      lower_number = r.lower_number;
      higher_number = e.number ∙ r.higher_number;
    }
