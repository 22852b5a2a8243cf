use Rattle.std.proofs.Common.{arith, refl, sym, ap, ◌∙◌, subst, ◌-◌, set}
use Rattle.edge_lock.specs.declared.history.Access.TheVariants.{Write}
use Rattle.edge_lock.specs.History.{site_count, IsAllowed}
use Rattle.edge_lock.specs.EndLists.{IsHeld, with_access, after_access}
use Rattle.edge_lock.specs.PlainEdges.{PlainEdgeValue, own_lists, plain_edge_value}
use Rattle.edge_lock.specs.RegistersNow.{AreNow}
use Rattle.edge_lock.proofs.PlainRules as keeps
use Rattle.edge_lock.proofs.PlainRules.{M}
use Rattle.edge_lock.proofs.RegistersNow.{now_wrote}
use Rattle.edge_lock.proofs.plain_edge.PlainEdge.write.Goals as goal

pub note_access-requires-clause-may : goal.note_access-requires-clause-may
note_access-requires-clause-may c =
    let v = c.self.inside.seat.me.0 in let q = c.args.register in let size = ap (λ (x : PlainEdgeValue). x.registers) c.self.view_is in
    let held = subst (λ (x : PlainEdgeValue). IsHeld (own_lists c.args.end x)) (sym c.self.view_is) c.requires.held in
    (keeps.held_last c.args.end v c.self.invariant.4 held, (omega (arith, size, c.requires.register), subst (λ (x : PlainEdgeValue). IsAllowed (site_count x.registers) q c.args.value) (sym c.self.view_is) c.requires.allowed))

pub invariant_of-self : goal.invariant_of-self
invariant_of-self c =
    let v = c.self.inside.seat.me.0 in let items = c.self.inside.registers.items in
    let held = keeps.held_last c.args.end v c.self.invariant.4 (subst (λ (x : PlainEdgeValue). IsHeld (own_lists c.args.end x)) (sym c.self.view_is) c.requires.held) in (
      c.self.invariant.0,
      c.note_access.ensures.same ∙ c.self.invariant.1,
      ap (λ (m : M). m.1) c.note_access.ensures.now,
      subst (λ (m : M). AreNow m.0.registers m.0.holds (set items c.args.register c.args.value)) (sym c.note_access.ensures.now) (now_wrote v.registers v.holds items held c.self.invariant.3 c.args.register c.args.value (omega (arith, ap (λ (x : PlainEdgeValue). x.registers) c.self.view_is, c.requires.register))),
      c.note_access.ensures.kept,
    )

pub returns-clause-own : goal.returns-clause-own
returns-clause-own c =
    let inside = c.self.inside in let x0 = plain_edge_value inside.lower inside.higher inside.seat.me.0 in
    let held = subst (λ (x : PlainEdgeValue). IsHeld (own_lists c.args.end x)) (sym c.self.view_is) c.requires.held in
    ap (λ (m : M). own_lists c.args.end (plain_edge_value inside.lower inside.higher m.0)) c.note_access.ensures.now
    ∙ (keeps.own_changed c.args.end (with_access (Write c.args.register c.args.value)) x0 (λ h. refl) c.self.invariant.4 held ∙ ap (λ (x : PlainEdgeValue). after_access (Write c.args.register c.args.value) (own_lists c.args.end x)) c.self.view_is)

pub returns-clause-other : goal.returns-clause-other
returns-clause-other c =
    let inside = c.self.inside in let x0 = plain_edge_value inside.lower inside.higher inside.seat.me.0 in
    let held = subst (λ (x : PlainEdgeValue). IsHeld (own_lists c.args.end x)) (sym c.self.view_is) c.requires.held in
    ap (λ (m : M). own_lists (1 - c.args.end) (plain_edge_value inside.lower inside.higher m.0)) c.note_access.ensures.now
    ∙ (keeps.other_changed c.args.end (with_access (Write c.args.register c.args.value)) x0 c.requires.end (λ h. refl) c.self.invariant.4 held ∙ ap (own_lists (1 - c.args.end)) c.self.view_is)
