use Rattle.std.proofs.Common.{All, subst}
use Rattle.std.proofs.lemmas.List.{take_all}
use Rattle.std.proofs.lemmas.List.Elements.{All-more}
use Rattle.cases_order.proofs.OnBoard.{IsDone}
use Rattle.cases_order.proofs.driving.are_finished.Goals as goal

pub loop-tile-preserved : goal.loop-tile-preserved
loop-tile-preserved g c = All-more IsDone c.args.tiles.now c.loop-tile.tile-index c.tile-item.result c.loop-tile-test.true c.loop-tile.invariant (subst IsDone c.tile-item.is (c.is_finished.ensures c.if-not-is_finished.false))

pub returns : goal.returns
returns g c = λ yes. subst (λ ts. All IsDone ts) (take_all c.loop-tile.tile-index c.args.tiles.now c.loop-tile-test.false) c.loop-tile.invariant
