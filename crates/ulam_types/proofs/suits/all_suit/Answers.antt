use Rattle.std.proofs.Common.{arith, sym, ◌∙◌}
use Rattle.ulam_types.specs.Shown.{here}
use Rattle.ulam_types.proofs.Suited.{suit_on, suit_stop, suit_done}
use Rattle.ulam_types.proofs.suits.all_suit.Goals as goal

pub loop-i-preserved : goal.loop-i-preserved
loop-i-preserved c =
    let fits = sym c.suits.ensures ∙ c.if-not-suits.false in
    sym (suit_on (here c.args.scope.now) c.args.wants.now c.args.args.now c.loop-i.i _ c.index-args-i.result (omega arith) c.loop-i-test.true c.index-args-i.is fits) ∙ c.loop-i.invariant

pub returns-then-not-suits : goal.returns-then-not-suits
returns-then-not-suits c =
    let fits = sym c.suits.ensures ∙ c.if-not-suits.true in
    sym (suit_stop (here c.args.scope.now) c.args.wants.now c.args.args.now c.loop-i.i _ c.index-args-i.result (omega arith) c.loop-i-test.true c.index-args-i.is fits) ∙ c.loop-i.invariant

pub returns : goal.returns
returns c = sym (suit_done (here c.args.scope.now) c.args.wants.now c.args.args.now c.loop-i.i c.loop-i-test.false) ∙ c.loop-i.invariant
