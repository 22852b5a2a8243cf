use Rattle.std.proofs.Common.{rules, arith, ◌≡◌, ap, ◌∙◌, [], ◌∷◌, ◌+◌, length, Some}
use Rattle.std.proofs.lemmas.Grind.{common_steps}
use Rattle.std.proofs.lemmas.List.{length-append}
use Rattle.ulam_heirs.specs.OpenedViews.{state_of}
use Rattle.ulam_heirs.proofs.Walking.{open_less, open_kept, comes_to}
use Rattle.ulam_heirs.proofs.walk.up_to.Goals as goal

pub turns-preserved : goal.turns-preserved
turns-preserved c =
    let more : length c.turns.line.items ≡ length c.pop.new.self.items + 1 = ap length c.in-Some.ensures.items ∙ length-append c.pop.new.self.items (c.in-Some.step ∷ []) in
    record {
      stays = λ hs opens. open_less hs (state_of c.turns.opened) (state_of c.back_to.new.opened) c.turns.line.items c.pop.new.self.items c.in-Some.step c.in-Some.ensures.items c.in_ok-back_to.ensures (c.turns.invariant.stays hs opens);
      long = omega (arith, more, c.turns.invariant.long);
    }

pub returns-then-eq-clause-stays : goal.returns-then-eq-clause-stays
returns-then-eq-clause-stays c = λ hs opens.
    open_kept hs (state_of c.turns.opened) (state_of c.back_to.new.opened) c.turns.line.items c.pop.new.self.items c.push.new.self.items c.in-Some.step
    c.in-Some.ensures.items c.in_ok-push.ensures.items c.in_ok-back_to.ensures (c.turns.invariant.stays hs opens)

pub returns-then-eq-clause-table : goal.returns-then-eq-clause-table
returns-then-eq-clause-table c = λ so hs opens.
    let same : c.args.base ≡ Some c.in-Some.step.class = first_of (search rules, grind (arith, common_steps)) in
    comes_to hs (state_of c.turns.opened) (state_of c.back_to.new.opened) c.turns.line.items c.pop.new.self.items c.in-Some.step c.args.base
    c.in-Some.ensures.items same c.in_ok-back_to.ensures (c.turns.invariant.stays hs opens)
