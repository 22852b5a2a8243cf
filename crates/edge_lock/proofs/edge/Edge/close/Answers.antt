use Rattle.std.proofs.Common.{arith, ◌∙◌, subst}
use Rattle.edge_lock.specs.EndLists.{EndLists}
use Rattle.edge_lock.specs.Passes.{IsClosed, closed_value}
use Rattle.edge_lock.proofs.SharedSeats.{joins_as, high_none, settles_as, closes}
use Rattle.edge_lock.proofs.PassSeats.{fits, both_fit}
use Rattle.edge_lock.proofs.edge.Edge.close.Goals as goal

pub join_seat-requires : goal.join_seat-requires
join_seat-requires c =
    let low = fits _ _ _ _ _ _ c.lower.inside.seat.me _ _ c.lower.view_is c.self.view_is c.requires.lower.0 c.lower.invariant.1 in
    let high = fits _ _ _ _ _ _ c.higher.inside.seat.me _ _ c.higher.view_is c.self.view_is c.requires.higher.0 c.higher.invariant.1 in
    let are = both_fit _ _ _ _ _ _ _ _ low high (c.requires.lower.1, c.requires.lower.2) (c.requires.higher.1, c.requires.higher.2) in
    (low.table, high.table, high_none _ _ _ are, omega (arith, c.self.invariant), joins_as _ _ _ are _ _)

pub load-requires : goal.load-requires
load-requires c =
    let low = fits _ _ _ _ _ _ c.lower.inside.seat.me _ _ c.lower.view_is c.self.view_is c.requires.lower.0 c.lower.invariant.1 in
    let high = fits _ _ _ _ _ _ c.higher.inside.seat.me _ _ c.higher.view_is c.self.view_is c.requires.higher.0 c.higher.invariant.1 in
    let are = both_fit _ _ _ _ _ _ _ _ low high (c.requires.lower.1, c.requires.lower.2) (c.requires.higher.1, c.requires.higher.2) in
    (c.join_seat.ensures.0 ∙ low.table, omega (arith, c.self.invariant), settles_as _ _ _ are _ c.join_seat.ensures.2 _ _)

pub returns-clause-history : goal.returns-clause-history
returns-clause-history c =
    let low = fits _ _ _ _ _ _ c.lower.inside.seat.me _ _ c.lower.view_is c.self.view_is c.requires.lower.0 c.lower.invariant.1 in
    let high = fits _ _ _ _ _ _ c.higher.inside.seat.me _ _ c.higher.view_is c.self.view_is c.requires.higher.0 c.higher.invariant.1 in
    let are = both_fit _ _ _ _ _ _ _ _ low high (c.requires.lower.1, c.requires.lower.2) (c.requires.higher.1, c.requires.higher.2) in
    let size = c.self.inside.table.shared.key in let next = c.load.new.seat.me in
    subst (λ (x : EndLists × EndLists). IsClosed (closed_value size next.0) x.0 x.1) (λ i. (low.lists i, high.lists i)) (closes _ _ _ are _ c.join_seat.ensures.2 next c.load.ensures.2.0)
