use Rattle.std.proofs.Common.{arith, sym, ap, ◌∙◌, subst, get_or, length, ℕ}
use Rattle.edge_lock.specs.History.{site_count, IsAllowed}
use Rattle.edge_lock.specs.EndLists.{EndLists, IsHeld, Shows, known_value}
use Rattle.edge_lock.specs.Passes.{EdgeValue, PassValue}
use Rattle.edge_lock.proofs.PassSeats.{fits, has_registers, lends, lent, accessed}
use Rattle.edge_lock.proofs.edge.Edge.read.Goals as goal

pub slot_mut-requires : goal.slot_mut-requires
slot_mut-requires c =
    let fit = fits _ _ _ _ _ _ c.pass.inside.seat.me _ _ c.pass.view_is c.self.view_is c.requires.edge c.pass.invariant.1 in let held = subst IsHeld (sym fit.lists) c.requires.held in
    let slots = has_registers _ _ _ fit.paired held in (fit.table, lends _ _ slots)

pub get-value-requires : goal.get-value-requires
get-value-requires c =
    let fit = fits _ _ _ _ _ _ c.pass.inside.seat.me _ _ c.pass.view_is c.self.view_is c.requires.edge c.pass.invariant.1 in let held = subst IsHeld (sym fit.lists) c.requires.held in
    let slots = has_registers _ _ _ fit.paired held in let same = lent _ _ _ slots c.slot_mut.ensures.value in let wide = ap (λ (e : EdgeValue). e.registers) c.self.view_is in let long = ap length same ∙ fit.paired.long in
    omega (arith, long, wide, c.requires.register)

pub note_access-requires : goal.note_access-requires
note_access-requires c =
    let fit = fits _ _ _ _ _ _ c.pass.inside.seat.me _ _ c.pass.view_is c.self.view_is c.requires.edge c.pass.invariant.1 in let held = subst IsHeld (sym fit.lists) c.requires.held in
    let slots = has_registers _ _ _ fit.paired held in let same = lent _ _ _ slots c.slot_mut.ensures.value in let wide = ap (λ (e : EdgeValue). e.registers) c.self.view_is in let long = ap length same ∙ fit.paired.long in record {
      table = (fit.table, c.self.invariant);
      held = (_, fit.paired.view, held);
      can = (omega (arith, wide, c.requires.register), c.get-value.ensures ∙ ap (λ l. get_or l c.args.register 0) same);
    }

pub invariant_of-pass : goal.invariant_of-pass
invariant_of-pass c =
    let fit = fits _ _ _ _ _ _ c.pass.inside.seat.me _ _ c.pass.view_is c.self.view_is c.requires.edge c.pass.invariant.1 in let held = subst IsHeld (sym fit.lists) c.requires.held in
    let slots = has_registers _ _ _ fit.paired held in (c.pass.invariant.0, accessed _ _ _ _ _ _ c.pass.invariant.1 held (sym c.slot_mut.ensures.value ∙ slots) c.note_access.ensures.noted)

pub returns-clause-value : goal.returns-clause-value
returns-clause-value c = subst (λ (l : EndLists). Shows (known_value l c.args.register) c.get-value.result) (ap (λ (p : PassValue). p.lists) c.pass.view_is) c.note_access.ensures.noted.shown.0

pub returns-clause-allowed : goal.returns-clause-allowed
returns-clause-allowed c =
    let size = ap (λ (e : EdgeValue). e.registers) (ap (λ (p : PassValue). p.of) c.pass.view_is ∙ c.requires.edge) in
    subst (λ (n : ℕ). IsAllowed (site_count n) c.args.register c.get-value.result) size c.note_access.ensures.noted.shown.1
