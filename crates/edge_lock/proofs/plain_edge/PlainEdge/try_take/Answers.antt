use Rattle.std.proofs.Common.{arith, sym, ap, ◌∙◌, subst, ◌≡◌, ◌+◌, ◌*◌}
use Rattle.edge_lock.specs.History.{open_hold}
use Rattle.edge_lock.specs.SharedRule.{lock_word, attempt_in}
use Rattle.edge_lock.specs.EndLists.{IsFree, IsNew}
use Rattle.edge_lock.specs.PlainEdges.{end_in, PlainEdgeValue, own_lists, view_of, IsKept, IsAnswer}
use Rattle.edge_lock.specs.RegistersNow.{AreNow}
use Rattle.edge_lock.proofs.PlainRules as keeps
use Rattle.edge_lock.proofs.PlainRules.{M, now_tried}
use Rattle.edge_lock.proofs.plain_edge.PlainEdge.try_take.Goals as goal
use Rattle.edge_lock.proofs.plain_edge.PlainEdge.try_take.Goals.{then-found-eq0, else-found-eq0}

pub compare_exchange-found-requires : goal.compare_exchange-found-requires
compare_exchange-found-requires c =
    let w : 1 + 2 * c.args.attempt + c.from.result ≡ 1 + 2 * c.args.attempt + c.args.end = omega (arith, c.from.ensures) in
    let free = subst (λ (x : PlainEdgeValue). IsFree (own_lists c.args.end x)) (sym c.self.view_is) c.requires.free in
    let new = subst (λ (x : PlainEdgeValue). IsNew c.args.attempt (own_lists c.args.end x)) (sym c.self.view_is) c.requires.is_new in
    (c.self.invariant.1, omega (arith, c.self.invariant.0), keeps.tries _ _ c.args.end c.args.attempt _ c.self.inside.seat.me c.self.invariant.2 c.requires.end w free new.holds new.refusals)

pub returns-clause-answer : goal.returns-clause-answer
returns-clause-answer c =
    let found = c.compare_exchange-found.result in
    let is = c.compare_exchange-found.ensures.2.1 ∙ ap (λ (x : PlainEdgeValue). lock_word (open_hold x.holds)) c.self.view_is in
    let kept = subst (λ (x : PlainEdgeValue). IsKept (view_of x)) c.self.view_is c.self.invariant.4 in
    elim c.if-found-eq0.branch [
      | then-found-eq0 w ↦ subst (IsAnswer c.args.end c.args.self.now) (sym w.result-is) (keeps.answers_got c.args.end found c.args.self.now is w.if-found-eq0.true)
      | else-found-eq0 w ↦ subst (IsAnswer c.args.end c.args.self.now) (sym w.result-is) (keeps.answers_busy c.args.end found c.args.self.now kept c.requires.end c.requires.free is w.if-found-eq0.false)
    ]

pub invariant_of-self : goal.invariant_of-self
invariant_of-self c =
    let v = c.self.inside.seat.me.0 in let items = c.self.inside.registers.items in let e = c.compare_exchange-found.ensures in let word = 1 + 2 * c.args.attempt + c.from.result in (
      c.self.invariant.0,
      e.0 ∙ c.self.invariant.1,
      ap (λ (m : M). m.1) e.2.0 ∙ c.self.invariant.2,
      subst (λ (m : M). AreNow m.0.registers m.0.holds items) (sym e.2.0) (now_tried (end_in word) (attempt_in word) c.compare_exchange-found.result v items c.self.invariant.3),
      e.2.2,
    )
