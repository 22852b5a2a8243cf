use Rattle.std.proofs.Common.{arith, refl, sym, ap, ◌∙◌, subst, ◌-◌}
use Rattle.edge_lock.specs.EndLists.{IsHeld, closed_hold, after_give}
use Rattle.edge_lock.specs.PlainEdges.{PlainEdgeValue, own_lists, plain_edge_value}
use Rattle.edge_lock.specs.RegistersNow.{AreNow}
use Rattle.edge_lock.proofs.PlainRules as keeps
use Rattle.edge_lock.proofs.PlainRules.{M}
use Rattle.edge_lock.proofs.RegistersNow.{now_gave}
use Rattle.edge_lock.proofs.plain_edge.PlainEdge.give.Goals as goal

pub store-requires : goal.store-requires
store-requires c = (c.self.invariant.1, omega (arith, c.self.invariant.0), keeps.gives _ _ c.args.end c.self.inside.seat.me c.self.invariant.2 (subst (λ (x : PlainEdgeValue). IsHeld (own_lists c.args.end x)) (sym c.self.view_is) c.requires.held))

pub invariant_of-self : goal.invariant_of-self
invariant_of-self c =
    let v = c.self.inside.seat.me.0 in let items = c.self.inside.registers.items in
    let held = keeps.held_last c.args.end v c.self.invariant.4 (subst (λ (x : PlainEdgeValue). IsHeld (own_lists c.args.end x)) (sym c.self.view_is) c.requires.held) in (
      c.self.invariant.0,
      c.store.ensures.0 ∙ c.self.invariant.1,
      ap (λ (m : M). m.1) c.store.ensures.2.0 ∙ c.self.invariant.2,
      subst (λ (m : M). AreNow m.0.registers m.0.holds items) (sym c.store.ensures.2.0) (now_gave v.registers v.holds items held c.self.invariant.3),
      c.store.ensures.2.1,
    )

pub returns-clause-own : goal.returns-clause-own
returns-clause-own c =
    let inside = c.self.inside in let x0 = plain_edge_value inside.lower inside.higher inside.seat.me.0 in
    let held = subst (λ (x : PlainEdgeValue). IsHeld (own_lists c.args.end x)) (sym c.self.view_is) c.requires.held in
    ap (λ (m : M). own_lists c.args.end (plain_edge_value inside.lower inside.higher m.0)) c.store.ensures.2.0
    ∙ (keeps.own_changed c.args.end closed_hold x0 (λ h. refl) c.self.invariant.4 held ∙ ap (λ (x : PlainEdgeValue). after_give (own_lists c.args.end x)) c.self.view_is)

pub returns-clause-other : goal.returns-clause-other
returns-clause-other c =
    let inside = c.self.inside in let x0 = plain_edge_value inside.lower inside.higher inside.seat.me.0 in
    let held = subst (λ (x : PlainEdgeValue). IsHeld (own_lists c.args.end x)) (sym c.self.view_is) c.requires.held in
    ap (λ (m : M). own_lists (1 - c.args.end) (plain_edge_value inside.lower inside.higher m.0)) c.store.ensures.2.0
    ∙ (keeps.other_changed c.args.end closed_hold x0 c.requires.end (λ h. refl) c.self.invariant.4 held ∙ ap (own_lists (1 - c.args.end)) c.self.view_is)
