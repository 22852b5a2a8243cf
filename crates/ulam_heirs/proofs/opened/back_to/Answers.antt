use Rattle.std.proofs.Common.{inl, sym, length, arith}
use Rattle.std.proofs.lemmas.List.{length-map}
use Rattle.ulam_heirs.specs.OpenedViews.{change_of, state_of}
use Rattle.ulam_heirs.proofs.Tables.{back_step, back_end}
use Rattle.ulam_heirs.proofs.opened.back_to.Goals as goal

pub turns-preserved : goal.turns-preserved
turns-preserved c = record {
  state =
      back_step (state_of c.args.opened.now) (state_of c.turns.opened) (state_of c.take_back.new.opened) (length c.args.opened.now.changes.items) c.turns._turn c.args.end (length c.turns.opened.changes.items)
      (length-map c.args.opened.now.changes.items change_of) c.turns.invariant.state (sym (length-map c.turns.opened.changes.items change_of)) c.in_ok-take_back.ensures c.turns.invariant.after (omega (arith, c.turns-test.true, c.len-turn-end.ensures));
  after = omega (arith, c.turns.invariant.after);
  within = inl (omega (arith, c.turns-test.true, c.len-turn-end.ensures));
}

pub returns : goal.returns
returns c =
    back_end (state_of c.args.opened.now) (state_of c.turns.opened) (length c.args.opened.now.changes.items) c.turns._turn c.args.end
    (length-map c.args.opened.now.changes.items change_of) c.turns.invariant.state (omega (arith, c.turns-test.false, c.len-turn-end.ensures)) c.turns.invariant.within c.turns.invariant.after
