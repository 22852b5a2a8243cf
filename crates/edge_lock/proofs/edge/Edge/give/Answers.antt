use Rattle.std.proofs.Common.{arith, sym, subst}
use Rattle.edge_lock.specs.EndLists.{IsHeld}
use Rattle.edge_lock.proofs.SharedHolds.{gives_back}
use Rattle.edge_lock.proofs.PassSeats.{fits, given}
use Rattle.edge_lock.proofs.edge.Edge.give.Goals as goal

pub store-requires : goal.store-requires
store-requires c =
    let fit = fits _ _ _ _ _ _ c.pass.inside.seat.me _ _ c.pass.view_is c.self.view_is c.requires.edge c.pass.invariant.1 in
    (fit.table, omega (arith, c.self.invariant), gives_back _ _ _ _ _ fit.paired (subst IsHeld (sym fit.lists) c.requires.held))

pub invariant_of-pass : goal.invariant_of-pass
invariant_of-pass c = (c.pass.invariant.0, given _ _ _ _ c.pass.invariant.1 c.store.ensures.2)
