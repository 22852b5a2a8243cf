use Rattle.std.proofs.Common.{arith, ap, ◌∙◌, refl, subst, [], sym, get_or}
use Rattle.report_text.proofs.ReadLines.{fresh_more, serve_more}
use Rattle.report_text.specs.Cursors.{lasts_of, Serves}
use Rattle.report_text.specs.declared.cursors.LogCursor.{LogCursor}
use Rattle.report_text.proofs.reader.cursors.Goals as goal

pub loop-tile-preserved : goal.loop-tile-preserved
loop-tile-preserved c =
    let cursors = c.loop-tile.cursors.items in
    let cursor : LogCursor = record { stream = c.in_ok-of_tile.field-0; last = 0; line = 0 } in
    let lists = c.args.plan.now.lists in
    let items = c.in_ok-push.ensures.items in
    let many = c.loop-tile.invariant.many in
    let long = c.in_ok-push.ensures.len in
    record {
      many = omega (arith, many, long);
      fresh = ap lasts_of items ∙ fresh_more cursors c.loop-tile.tile cursor refl c.loop-tile.invariant.fresh;
      serve = λ t d less. subst (λ ss. Serves (get_or ss t d) (get_or lists t [])) (sym items)
          (serve_more cursors lists c.loop-tile.tile cursor many c.loop-tile.invariant.serve c.in_ok-of_tile.ensures.value t d less);
    }
