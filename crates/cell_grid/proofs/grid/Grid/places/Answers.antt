use Rattle.std.proofs.Common.{◌≡◌, arith}
use Rattle.cell_grid.proofs.Windows.{AreFound-more, AreLivePlaces-found}
use Rattle.cell_grid.proofs.grid.Grid.places.Goals as goal

pub loop-n-preserved : goal.loop-n-preserved
loop-n-preserved c =
    AreFound-more c.args.self.now c.args.x c.args.y c.loop-n.n c.loop-n.places _ c.loop-n-test.true c.place_of.ensures.place c.place_of.ensures.live c.loop-n.invariant

pub returns-clause-places : goal.returns-clause-places
returns-clause-places c =
    let all : c.loop-n.n ≡ 41 = omega arith in
    (rw all at c.loop-n.invariant).place

pub returns-clause-live : goal.returns-clause-live
returns-clause-live c =
    let all : c.loop-n.n ≡ 41 = omega arith in
    AreLivePlaces-found c.args.self.now c.args.x c.args.y _ (rw all at c.loop-n.invariant)
