use Rattle.std.proofs.Common.{arith, rules, sym, ap, subst, ◌≡◌, ◌+◌, ◌*◌, ◌<◌}
use Rattle.edge_lock.specs.EndLists.{IsNew, IsFree}
use Rattle.edge_lock.specs.Passes.{PassValue}
use Rattle.edge_lock.proofs.SharedSteps.{tries_as}
use Rattle.edge_lock.proofs.PassSeats.{fits, tried}
use Rattle.edge_lock.proofs.edge.Edge.try_take.Goals as goal

pub compare_exchange-found-requires : goal.compare_exchange-found-requires
compare_exchange-found-requires c =
    let fit = fits _ _ _ _ _ _ c.pass.inside.seat.me _ _ c.pass.view_is c.self.view_is c.requires.edge c.pass.invariant.1 in
    let end = ap (λ (p : PassValue). p.end) c.pass.view_is in let a = c.args.attempt in
    let word : 1 + 2 * a + c.from.result ≡ 1 + 2 * a + c.args.pass.now.end = omega (arith, c.from.ensures, end) in (
      fit.table,
      omega (arith, c.self.invariant),
      tries_as _ _ _ _ a _ _ fit.paired word (omega (arith, end, c.pass.invariant.0)) (subst IsFree (sym fit.lists) c.requires.free) (subst (IsNew a) (sym fit.lists) c.requires.is_new),
    )

pub invariant_of-pass : goal.invariant_of-pass
invariant_of-pass c = (c.pass.invariant.0, tried _ _ _ _ _ _ c.pass.invariant.1 c.compare_exchange-found.ensures.2)

pub returns-clause-end : goal.returns-clause-end
returns-clause-end c = subst (λ (p : PassValue). p.end < 2) c.pass.view_is c.pass.invariant.0

pub returns-clause-pass : goal.returns-clause-pass
returns-clause-pass c = search rules
