use Rattle.std.proofs.Common.{sym, subst}
use Rattle.cases_order.specs.Driven.{IsDriven}
use Rattle.cases_order.proofs.OnBoard.{driven_new}
use Rattle.cases_order.proofs.runs.run.Goals as goal

pub drive-requires : goal.drive-requires
drive-requires g c =
    let m = c.in_ok-map.map in
    let s = c.in_ok-tiles.ensures.0 in
    let f = c.in_ok-tiles.ensures.1 in
    subst (λ ts. IsDriven g.B.Behave.after m ts c.in_ok-board.board) (sym c.as_mut_slice.ensures.value)
    (driven_new g.B.Behave.after m s c.in_ok-tiles.tiles.items c.in_ok-board.board c.laws.ensures.valid f.grid f.fits f.plan_is f.lists f.count (record { fresh = f.fresh; acts = f.meanings }) c.in_ok-board.ensures.edges)
