use Rattle.std.proofs.Common.{sym, subst}
use Rattle.cell_grid.specs.Tried.{after_turn}
use Rattle.edge_lock.specs.PlainBoard.{lists_on}
use Rattle.tile_core.specs.Underway.{IsSome}
use Rattle.cases_tile.proofs.alone.log.Goals as goal

pub into_log-requires : goal.into_log-requires
into_log-requires c =
    let i = c.requires in
    (after_turn, lists_on c.args.board.now, subst (λ k. IsSome k after_turn c.args.tile.core (lists_on c.args.board.now)) (sym i.map) i.underway)
