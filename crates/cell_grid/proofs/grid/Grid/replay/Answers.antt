use Rattle.std.proofs.Common.{ap, sym, ◌∙◌}
use Rattle.cell_grid.proofs.Replayed.{replay-on}
use Rattle.cell_grid.proofs.grid.Grid.replay.Goals as goal

pub loop-entry-preserved : goal.loop-entry-preserved
loop-entry-preserved g c =
    let after = g.B.Behave.after c.args.behave.now in
    let l = c.loop-entry.invariant in
    let plane = c.event_in.ensures.plane in
    record {
      rest = sym (replay-on after _ l.meaning _ _ c.args.records.now c.loop-entry.entry-index _ c.loop-entry-test.true c.event_in.ensures.grid) ∙ l.rest;
      width = plane.0 ∙ l.width;
      height = plane.1 ∙ l.height;
      live = plane.2 ∙ l.live;
      meaning = c.event_in.ensures.meaning ∙ l.meaning;
    }
