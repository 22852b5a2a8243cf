use Rattle.std.proofs.Common.{◌∙◌, ap, []}
use Rattle.event_film.proofs.Records.{record_at}
use Rattle.cell_grid.specs.Grid.{GridValue, event}
use Rattle.cell_grid.specs.declared.record.Record.{Record}
use Rattle.event_film.proofs.BackAgain.{alike_then, live_alike, made}
use Rattle.event_film.proofs.rewinding.run.Goals as goal

pub apply-requires-clause-live : goal.apply-requires-clause-live
apply-requires-clause-live g c =
    live_alike c.args.grid.now c.loop-entry.grid _ _ c.loop-entry.invariant.plane (c.requires.live c.loop-entry.entry-index (record_at [] 0) c.loop-entry-test.true)

pub loop-entry-preserved : goal.loop-entry-preserved
loop-entry-preserved g c =
    let after = g.B.Behave.after c.args.behave.now in
    let r : Record = record_at c.args.records.now c.loop-entry.entry-index in
    let grid : GridValue = c.loop-entry.grid in
    record {
      at = made after c.args.grid.now c.args.records.now c.loop-entry.entry-index c.loop-entry.film c.apply.new.self c.loop-entry.grid c.apply.new.grid c.loop-entry-test.true c.loop-entry.invariant.at
          c.apply.ensures.kept c.apply.ensures.spare (c.apply.ensures.grid ∙ ap (λ f. event f grid r.x r.y r.seed) c.loop-entry.invariant.meaning);
      plane = alike_then c.args.grid.now c.loop-entry.grid c.apply.new.grid c.loop-entry.invariant.plane c.apply.ensures.plane;
      meaning = c.apply.ensures.meaning ∙ c.loop-entry.invariant.meaning;
    }
