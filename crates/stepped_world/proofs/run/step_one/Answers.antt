use Rattle.std.proofs.Common.{arith, slice_index_or}
use Rattle.std.proofs.lemmas.Option.{slice_get-get_or}
use Rattle.stepped_world.proofs.Ready.{map_is, end_is, some_is, advanced}
use Rattle.stepped_world.proofs.Following.{one_step, fewer}
use Rattle.stepped_world.proofs.run.step_one.Goals as goal

pub advance-requires-clause-map : goal.advance-requires-clause-map
advance-requires-clause-map g c =
    let xs = c.args.tiles.now in let r = c.requires.ready in let n = r.1.count in let lt = c.requires.tile in
    let x = slice_index_or xs c.args.tile c.index-tiles-tile.result in
    let is = slice_get-get_or xs c.args.tile c.index-tiles-tile.result (omega (arith, n, lt)) in
    map_is g.B.Behave.after c.args.map.now r.0 xs c.args.tile x c.args.board.now c.turn_to.new.self r.1 is c.turn_to.ensures.acting c.turn_to.ensures.edges

pub advance-requires-clause-board : goal.advance-requires-clause-board
advance-requires-clause-board g c =
    let xs = c.args.tiles.now in let r = c.requires.ready in let n = r.1.count in let lt = c.requires.tile in
    let x = slice_index_or xs c.args.tile c.index-tiles-tile.result in
    let is = slice_get-get_or xs c.args.tile c.index-tiles-tile.result (omega (arith, n, lt)) in
    end_is g.B.Behave.after c.args.map.now r.0 xs c.args.tile x c.args.board.now c.turn_to.new.self r.1 is c.turn_to.ensures.acting c.turn_to.ensures.edges

pub advance-requires-clause-underway : goal.advance-requires-clause-underway
advance-requires-clause-underway g c =
    let xs = c.args.tiles.now in let r = c.requires.ready in let n = r.1.count in let lt = c.requires.tile in
    let x = slice_index_or xs c.args.tile c.index-tiles-tile.result in
    let is = slice_get-get_or xs c.args.tile c.index-tiles-tile.result (omega (arith, n, lt)) in
    some_is g.B.Behave.after c.args.map.now r.0 xs c.args.tile x c.args.board.now c.turn_to.new.self r.1 is c.turn_to.ensures.acting c.turn_to.ensures.edges

pub returns-clause-follows : goal.returns-clause-follows
returns-clause-follows g c =
    let xs = c.args.tiles.now in let r = c.requires.ready in let n = r.1.count in let lt = c.requires.tile in
    let x = slice_index_or xs c.args.tile c.index-tiles-tile.result in
    let is = slice_get-get_or xs c.args.tile c.index-tiles-tile.result (omega (arith, n, lt)) in
    let e = c.advance.ensures in
    let d = advanced g.B.Behave.after c.args.map.now r.0 xs c.args.tile x c.args.board.now c.turn_to.new.self r.1 is c.turn_to.ensures.acting c.turn_to.ensures.edges c.advance.new.self c.advance.new.board e.step e.on e.number e.meaning e.moved in
    one_step g.B.Behave.after c.args.map.now xs c.args.tile x c.advance.new.self c.args.board.now c.turn_to.new.self c.advance.new.board c.laws.ensures.plane is c.turn_to.ensures.edges d

pub returns-clause-fewer : goal.returns-clause-fewer
returns-clause-fewer g c =
    let xs = c.args.tiles.now in let r = c.requires.ready in let n = r.1.count in let lt = c.requires.tile in
    let x = slice_index_or xs c.args.tile c.index-tiles-tile.result in
    let is = slice_get-get_or xs c.args.tile c.index-tiles-tile.result (omega (arith, n, lt)) in
    let e = c.advance.ensures in
    let d = advanced g.B.Behave.after c.args.map.now r.0 xs c.args.tile x c.args.board.now c.turn_to.new.self r.1 is c.turn_to.ensures.acting c.turn_to.ensures.edges c.advance.new.self c.advance.new.board e.step e.on e.number e.meaning e.moved in
    fewer g.B.Behave.after c.args.map.now xs c.args.tile x c.advance.new.self c.args.board.now c.turn_to.new.self c.advance.new.board c.laws.ensures.plane is c.turn_to.ensures.edges d r.0 r.1
