use Rattle.std.proofs.Common.{◌<◌, length, arith}
use Rattle.std.specs.Prelude.{slice_index_or}
use Rattle.std.proofs.lemmas.Option.{slice_get-get_or}
use Rattle.cases_order.proofs.OnBoard.{map_is, end_there, some_underway, driven_on}
use Rattle.cases_order.proofs.driving.step.Goals as goal

pub advance-requires-clause-map : goal.advance-requires-clause-map
advance-requires-clause-map g c =
    let tiles = c.args.tiles.now in
    let d = c.requires.driven in
    let lt : c.args.tile < length tiles = omega (arith, c.requires.tile, d.count) in
    map_is g.B.Behave.after c.args.map.now tiles c.args.board.now c.turn_to.new.self d c.args.tile c.requires.tile c.turn_to.ensures.edges c.turn_to.ensures.acting (slice_index_or tiles c.args.tile c.index-tiles-tile.result) (slice_get-get_or tiles c.args.tile c.index-tiles-tile.result lt)

pub advance-requires-clause-board : goal.advance-requires-clause-board
advance-requires-clause-board g c =
    let tiles = c.args.tiles.now in
    let d = c.requires.driven in
    let lt : c.args.tile < length tiles = omega (arith, c.requires.tile, d.count) in
    end_there g.B.Behave.after c.args.map.now tiles c.args.board.now c.turn_to.new.self d c.args.tile c.requires.tile c.turn_to.ensures.edges c.turn_to.ensures.acting (slice_index_or tiles c.args.tile c.index-tiles-tile.result) (slice_get-get_or tiles c.args.tile c.index-tiles-tile.result lt)

pub advance-requires-clause-underway : goal.advance-requires-clause-underway
advance-requires-clause-underway g c =
    let tiles = c.args.tiles.now in
    let d = c.requires.driven in
    let lt : c.args.tile < length tiles = omega (arith, c.requires.tile, d.count) in
    some_underway g.B.Behave.after c.args.map.now tiles c.args.board.now c.turn_to.new.self d c.args.tile c.requires.tile c.turn_to.ensures.edges c.turn_to.ensures.acting (slice_index_or tiles c.args.tile c.index-tiles-tile.result) (slice_get-get_or tiles c.args.tile c.index-tiles-tile.result lt)

pub returns : goal.returns
returns g c =
    let tiles = c.args.tiles.now in
    let d = c.requires.driven in
    let e = c.advance.ensures in
    let lt : c.args.tile < length tiles = omega (arith, c.requires.tile, d.count) in
    driven_on g.B.Behave.after c.args.map.now tiles c.args.board.now c.turn_to.new.self d c.args.tile c.requires.tile c.turn_to.ensures.edges c.turn_to.ensures.acting (slice_index_or tiles c.args.tile c.index-tiles-tile.result) c.advance.new.self (slice_get-get_or tiles c.args.tile c.index-tiles-tile.result lt)
    c.advance.new.board e.on e.number e.meaning e.same.0 e.moved
