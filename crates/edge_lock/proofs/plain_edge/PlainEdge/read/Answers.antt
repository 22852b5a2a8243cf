use Rattle.std.proofs.Common.{arith, refl, sym, ap, ◌∙◌, subst, ◌≡◌, ◌<◌, ◌-◌, []}
use Rattle.edge_lock.specs.declared.history.Access.TheVariants.{Read}
use Rattle.edge_lock.specs.History.{register_value, site_count, IsAllowed}
use Rattle.edge_lock.specs.EndLists.{IsHeld, Shows, known_value, with_access, after_access}
use Rattle.edge_lock.specs.PlainEdges.{PlainEdgeValue, own_lists, plain_edge_value}
use Rattle.edge_lock.specs.RegistersNow.{AreNow}
use Rattle.edge_lock.proofs.PlainRules as keeps
use Rattle.edge_lock.proofs.PlainRules.{M}
use Rattle.edge_lock.proofs.RegistersNow.{now_found, now_read}
use Rattle.edge_lock.proofs.plain_edge.PlainEdge.read.Goals as goal

pub note_access-requires-clause-may : goal.note_access-requires-clause-may
note_access-requires-clause-may c =
    let v = c.self.inside.seat.me.0 in let q = c.args.register in let value = c.index-value.result.now in
    let here : q < v.registers = omega (arith, ap (λ (x : PlainEdgeValue). x.registers) c.self.view_is, c.requires.register) in
    let held = subst (λ (x : PlainEdgeValue). IsHeld (own_lists c.args.end x)) (sym c.self.view_is) c.requires.held in
    let is : value ≡ register_value v.holds q = now_found v.registers v.holds c.self.inside.registers.items q value c.self.invariant.3 here c.index-value.ensures in
    (keeps.held_last c.args.end v c.self.invariant.4 held, (here, is))

pub invariant_of-self : goal.invariant_of-self
invariant_of-self c =
    let v = c.self.inside.seat.me.0 in let items = c.self.inside.registers.items in
    let held = keeps.held_last c.args.end v c.self.invariant.4 (subst (λ (x : PlainEdgeValue). IsHeld (own_lists c.args.end x)) (sym c.self.view_is) c.requires.held) in (
      c.self.invariant.0,
      c.note_access.ensures.same ∙ c.self.invariant.1,
      ap (λ (m : M). m.1) c.note_access.ensures.now,
      subst (λ (m : M). AreNow m.0.registers m.0.holds items) (sym c.note_access.ensures.now) (now_read v.registers v.holds items held c.self.invariant.3 c.args.register c.index-value.result.now),
      c.note_access.ensures.kept,
    )

pub returns-clause-allowed : goal.returns-clause-allowed
returns-clause-allowed c =
    let v = c.self.inside.seat.me.0 in let q = c.args.register in let value = c.index-value.result.now in
    let here : q < v.registers = omega (arith, ap (λ (x : PlainEdgeValue). x.registers) c.self.view_is, c.requires.register) in
    let held = subst (λ (x : PlainEdgeValue). IsHeld (own_lists c.args.end x)) (sym c.self.view_is) c.requires.held in
    let is : value ≡ register_value v.holds q = now_found v.registers v.holds c.self.inside.registers.items q value c.self.invariant.3 here c.index-value.ensures in
    subst (λ (x : PlainEdgeValue). IsAllowed (site_count x.registers) q value) c.self.view_is (keeps.shows_known c.args.end q value v [] c.self.invariant.4 held is).1

pub returns-clause-value : goal.returns-clause-value
returns-clause-value c =
    let v = c.self.inside.seat.me.0 in let q = c.args.register in let value = c.index-value.result.now in
    let here : q < v.registers = omega (arith, ap (λ (x : PlainEdgeValue). x.registers) c.self.view_is, c.requires.register) in
    let held = subst (λ (x : PlainEdgeValue). IsHeld (own_lists c.args.end x)) (sym c.self.view_is) c.requires.held in
    let is : value ≡ register_value v.holds q = now_found v.registers v.holds c.self.inside.registers.items q value c.self.invariant.3 here c.index-value.ensures in
    subst (λ (x : PlainEdgeValue). Shows (known_value (own_lists c.args.end x) q) value) c.self.view_is (keeps.shows_known c.args.end q value v [] c.self.invariant.4 held is).0

pub returns-clause-own : goal.returns-clause-own
returns-clause-own c =
    let inside = c.self.inside in let x0 = plain_edge_value inside.lower inside.higher inside.seat.me.0 in
    let held = subst (λ (x : PlainEdgeValue). IsHeld (own_lists c.args.end x)) (sym c.self.view_is) c.requires.held in
    ap (λ (m : M). own_lists c.args.end (plain_edge_value inside.lower inside.higher m.0)) c.note_access.ensures.now
    ∙ (keeps.own_changed c.args.end (with_access (Read c.args.register c.index-value.result.now)) x0 (λ h. refl) c.self.invariant.4 held ∙ ap (λ (x : PlainEdgeValue). after_access (Read c.args.register c.index-value.result.now) (own_lists c.args.end x)) c.self.view_is)

pub returns-clause-other : goal.returns-clause-other
returns-clause-other c =
    let inside = c.self.inside in let x0 = plain_edge_value inside.lower inside.higher inside.seat.me.0 in
    let held = subst (λ (x : PlainEdgeValue). IsHeld (own_lists c.args.end x)) (sym c.self.view_is) c.requires.held in
    ap (λ (m : M). own_lists (1 - c.args.end) (plain_edge_value inside.lower inside.higher m.0)) c.note_access.ensures.now
    ∙ (keeps.other_changed c.args.end (with_access (Read c.args.register c.index-value.result.now)) x0 c.requires.end (λ h. refl) c.self.invariant.4 held ∙ ap (own_lists (1 - c.args.end)) c.self.view_is)
