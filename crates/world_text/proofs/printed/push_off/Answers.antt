use Rattle.std.proofs.Common.{◌++◌, ◌∙◌, ap, arith, not}
use Rattle.feast_base.proofs.Appending.{Appends-at_exit, more_after}
use Rattle.world_text.specs.Printed.{lines_text, off_one}
use Rattle.world_text.proofs.Marked.{off_at}
use Rattle.world_text.proofs.Prints.{off_more}
use Rattle.world_text.proofs.printed.push_off.Goals as goal

pub returns-in_err-push_mark : goal.returns-in_err-push_mark
returns-in_err-push_mark c =
    Appends-at_exit _ c.args.out.now.items c.loop-tile.out.items _ _ c.from_residual.result c.from_residual.ensures.1 c.loop-tile.invariant.kept c.in_err-push_mark.ensures

pub loop-tile-preserved : goal.loop-tile-preserved
loop-tile-preserved c = record {
  done = off_more c.loop-tile.tile c.args.map.now.off c.loop-tile.out.items c.push_mark.new.out.items _
      (omega (arith, c.loop-tile-test.true, c.tiles-tile-end.ensures.count, c.tiles-tile-end.ensures.valid.marks))
      (c.in_ok-push_mark.ensures ∙ ap (λ o. c.loop-tile.out.items ++ lines_text (off_one c.loop-tile.tile o)) (ap not c.is_on.ensures ∙ off_at c.args.map.now c.loop-tile.tile (omega (arith, c.loop-tile-test.true, c.tiles-tile-end.ensures.count))))
      c.loop-tile.invariant.done;
  kept = more_after _ _ _ c.loop-tile.invariant.kept (_, c.in_ok-push_mark.ensures);
}
