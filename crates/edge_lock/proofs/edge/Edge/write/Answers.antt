use Rattle.std.proofs.Common.{arith, sym, ap, ◌∙◌, subst, ◌∷◌, set, length, ℕ}
use Rattle.atomic_table.specs.Table.{rest}
use Rattle.edge_lock.specs.History.{site_count, IsAllowed}
use Rattle.edge_lock.specs.EndLists.{IsHeld}
use Rattle.edge_lock.specs.Passes.{EdgeValue}
use Rattle.edge_lock.proofs.PassSeats.{fits, has_registers, lends, lent, accessed}
use Rattle.edge_lock.proofs.edge.Edge.write.Goals as goal

pub slot_mut-requires : goal.slot_mut-requires
slot_mut-requires c =
    let fit = fits _ _ _ _ _ _ c.pass.inside.seat.me _ _ c.pass.view_is c.self.view_is c.requires.edge c.pass.invariant.1 in let held = subst IsHeld (sym fit.lists) c.requires.held in
    let slots = has_registers _ _ _ fit.paired held in (fit.table, lends _ _ slots)

pub set-requires : goal.set-requires
set-requires c =
    let fit = fits _ _ _ _ _ _ c.pass.inside.seat.me _ _ c.pass.view_is c.self.view_is c.requires.edge c.pass.invariant.1 in let held = subst IsHeld (sym fit.lists) c.requires.held in
    let slots = has_registers _ _ _ fit.paired held in let same = lent _ _ _ slots c.slot_mut.ensures.value in let wide = ap (λ (e : EdgeValue). e.registers) c.self.view_is in let long = ap length same ∙ fit.paired.long in
    omega (arith, long, wide, c.requires.register)

pub note_access-requires : goal.note_access-requires
note_access-requires c =
    let fit = fits _ _ _ _ _ _ c.pass.inside.seat.me _ _ c.pass.view_is c.self.view_is c.requires.edge c.pass.invariant.1 in let held = subst IsHeld (sym fit.lists) c.requires.held in
    let slots = has_registers _ _ _ fit.paired held in let wide = ap (λ (e : EdgeValue). e.registers) c.self.view_is in record {
      table = (fit.table, c.self.invariant);
      held = (_, fit.paired.view, held);
      can = (omega (arith, wide, c.requires.register), subst (λ (n : ℕ). IsAllowed (site_count n) c.args.register c.args.value) (sym wide) c.requires.allowed);
    }

pub invariant_of-pass : goal.invariant_of-pass
invariant_of-pass c =
    let fit = fits _ _ _ _ _ _ c.pass.inside.seat.me _ _ c.pass.view_is c.self.view_is c.requires.edge c.pass.invariant.1 in let held = subst IsHeld (sym fit.lists) c.requires.held in
    let slots = has_registers _ _ _ fit.paired held in let same = lent _ _ _ slots c.slot_mut.ensures.value in
    let now = c.set.ensures ∙ ap (λ l. set l c.args.register c.args.value) same in
    (c.pass.invariant.0, accessed _ _ _ _ _ _ c.pass.invariant.1 held (λ i. (0, now i) ∷ ap rest slots i) c.note_access.ensures.noted)
