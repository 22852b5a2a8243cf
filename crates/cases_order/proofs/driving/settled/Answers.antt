use Rattle.std.proofs.Common.{All, subst}
use Rattle.serial_order.proofs.Boards.{words}
use Rattle.cases_order.proofs.OnBoard.{IsDone, all_made, are_over}
use Rattle.cases_order.proofs.driving.settled.Goals as goal

pub settle-requires-clause-made : goal.settle-requires-clause-made
settle-requires-clause-made g c = all_made g.B.Behave.after c.args.map.now c.args.tiles.items c.args.board.now c.requires.driven

pub settle-requires-clause-words : goal.settle-requires-clause-words
settle-requires-clause-words g c = words c.args.map.now c.args.board.now c.requires.driven.edges

pub settle-requires-clause-over : goal.settle-requires-clause-over
settle-requires-clause-over g c =
    are_over g.B.Behave.after c.args.map.now c.args.tiles.items c.args.board.now c.requires.driven (subst (λ ts. All IsDone ts) c.as_slice.ensures.value (c.are_finished.ensures c.if-not-are_finished.false))
