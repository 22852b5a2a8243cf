use Rattle.std.proofs.Common.{ℕ, ◌+◌, List, length, sym, ap, subst, ◌∙◌}
use Rattle.std.proofs.lemmas.List.{length_push}
use Rattle.draw_stream.specs.declared.attempt.Attempt.{Attempt}
use Rattle.draw_stream.specs.Plans.{attempts}
use Rattle.tile_core.specs.Values.{atoms_of}
use Rattle.tile_core.specs.Underway.{IsFreshTile}
use Rattle.event_journal.specs.Serial.{course}
use Rattle.cases_order.proofs.OnBoard.{one_fresh}
use Rattle.cases_order.proofs.driving.tiles.Goals as goal

pub loop-tile-preserved : goal.loop-tile-preserved
loop-tile-preserved g c =
    let old = c.loop-tile.tiles.items in
    let new = c.in_ok-new.new in
    let count = c.loop-tile.invariant.count in
    let more = c.in_ok-push.ensures.items in
    record {
      count = ap length more ∙ (length_push old new ∙ ap (λ n. n + 1) count);
      fresh = one_fresh g.B.Behave.after c.args.map.now (course c.args.map.now c.args.plan.now (g.B.Behave.after c.args.behave) c.args.start.now) old c.push.new.self.items new more
          (subst (λ (p : ℕ × List Attempt). IsFreshTile c.args.map.now p.0 (atoms_of c.args.start.now) p.1 new.core) (λ i. (sym count i, (c.in_ok-attempts.ensures.value ∙ ap (attempts c.args.plan.now) (sym count)) i)) c.in_ok-new.ensures.fresh)
          (ap g.B.Behave.after c.in_ok-new.ensures.acts) c.loop-tile.invariant.fresh;
    }
