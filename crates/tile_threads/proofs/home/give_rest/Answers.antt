use Rattle.std.proofs.Common.{◌≡◌, ◌<◌, length, refl, sym, ap, ◌∙◌, subst, arith}
use Rattle.tile_map.specs.Plane.{site, tiles_of}
use Rattle.tile_map.specs.Edges.{needs_of}
use Rattle.tile_core.specs.Turns.{AgreeOnEdges}
use Rattle.tile_threads.proofs.LettingGo.{after_some, gave_none}
use Rattle.edge_lock.proofs.BoardLaws.{same_end, same_end_here}
use Rattle.tile_threads.proofs.Resting.{nothing_left, site_inside, tile_inside, next_is_held, next_is_quiet, is_edge, given_more, given_all}
use Rattle.border_cache.proofs.Stored.{end_stays}
use Rattle.tile_threads.proofs.home.give_rest.Goals as goal

pub returns-in_default-clause-lists : goal.returns-in_default-clause-lists
returns-in_default-clause-lists g c = nothing_left c.args.map.now c.args.tile.now.core (g.D.Board.end c.args.end.now).lists c.requires.done.stopped c.requires.done.underway (sym c.in_default.is ∙ c.in_hand.ensures)

pub needs-needs-requires-clause-tile : goal.needs-needs-requires-clause-tile
needs-needs-requires-clause-tile g c =
    subst (λ t. t < tiles_of c.args.map.now) (sym c.number.ensures)
    (tile_inside c.args.map.now c.args.tile.now.core (g.D.Board.end c.args.end.now).lists
    c.requires.done.stopped c.requires.done.underway c.in-Some.x c.in-Some.y
    (sym c.in-Some.is ∙ c.in_hand.ensures))

pub needs-needs-requires-clause-x : goal.needs-needs-requires-clause-x
needs-needs-requires-clause-x g c
    = (site_inside c.args.map.now c.args.tile.now.core (g.D.Board.end c.args.end.now).lists
    c.requires.done.stopped c.requires.done.underway c.in-Some.x c.in-Some.y
    (sym c.in-Some.is ∙ c.in_hand.ensures)).0

pub needs-needs-requires-clause-y : goal.needs-needs-requires-clause-y
needs-needs-requires-clause-y g c
    = (site_inside c.args.map.now c.args.tile.now.core (g.D.Board.end c.args.end.now).lists
    c.requires.done.stopped c.requires.done.underway c.in-Some.x c.in-Some.y
    (sym c.in-Some.is ∙ c.in_hand.ensures)).1

pub edge-requires : goal.edge-requires
edge-requires g c = let n = c.len-i-end.ensures.count in let t = c.loop-i-test.true in omega (arith, n, t)

pub returns-clause-moved : goal.returns-clause-moved
returns-clause-moved g c = c.loop-i.invariant.moved

pub give_back-requires-clause-edge : goal.give_back-requires-clause-edge
give_back-requires-clause-edge g c =
    let i = c.loop-i.invariant in
    let lt : c.loop-i.i < length c.needs-needs.result = let n = c.len-i-end.ensures.count in let t = c.loop-i-test.true in omega (arith, n, t) in
    is_edge c.args.map.now c.args.tile.now.core (g.D.Board.end c.args.end.now).lists c.requires.done.stopped c.requires.done.underway c.in-Some.x c.in-Some.y (sym c.in-Some.is ∙ c.in_hand.ensures) c.needs-needs.result (c.needs-needs.ensures ∙ ap (λ t. needs_of c.args.map.now t (site c.in-Some.x c.in-Some.y)) c.number.ensures) (g.D.Board.end c.loop-i.end).lists c.loop-i.i c.edge.result lt c.edge.ensures i.given
    (g.D.Board.end c.loop-i.end)
    (end_stays c.args.map.now c.args.tile.now.core.number c.args.tile.now.core.number (g.D.Board.end c.args.end.now) (g.D.Board.end c.loop-i.end) refl i.same c.requires.done.board)

pub give_back-requires-clause-held : goal.give_back-requires-clause-held
give_back-requires-clause-held g c =
    let i = c.loop-i.invariant in
    let lt : c.loop-i.i < length c.needs-needs.result = let n = c.len-i-end.ensures.count in let t = c.loop-i-test.true in omega (arith, n, t) in
    next_is_held c.args.map.now c.args.tile.now.core (g.D.Board.end c.args.end.now).lists c.requires.done.stopped c.requires.done.underway c.in-Some.x c.in-Some.y (sym c.in-Some.is ∙ c.in_hand.ensures) c.needs-needs.result (c.needs-needs.ensures ∙ ap (λ t. needs_of c.args.map.now t (site c.in-Some.x c.in-Some.y)) c.number.ensures) (g.D.Board.end c.loop-i.end).lists c.loop-i.i c.edge.result lt c.edge.ensures i.given

pub give_back-requires-clause-unwritten : goal.give_back-requires-clause-unwritten
give_back-requires-clause-unwritten g c =
    let i = c.loop-i.invariant in
    let lt : c.loop-i.i < length c.needs-needs.result = let n = c.len-i-end.ensures.count in let t = c.loop-i-test.true in omega (arith, n, t) in
    next_is_quiet c.args.map.now c.args.tile.now.core (g.D.Board.end c.args.end.now).lists c.requires.done.stopped c.requires.done.underway c.in-Some.x c.in-Some.y (sym c.in-Some.is ∙ c.in_hand.ensures) c.needs-needs.result (c.needs-needs.ensures ∙ ap (λ t. needs_of c.args.map.now t (site c.in-Some.x c.in-Some.y)) c.number.ensures) (g.D.Board.end c.loop-i.end).lists c.loop-i.i c.edge.result lt c.edge.ensures i.given

pub loop-i-init : goal.loop-i-init
loop-i-init g c =
    let a = g.D.Board.end c.args.end.now in
    record {
      given = gave_none c.args.map.now c.args.tile.now.core.number c.needs-needs.result a.lists;
      same = same_end_here a;
      moved = g.met.D.Board.moved_same c.args.end.now;
    }

pub loop-i-preserved : goal.loop-i-preserved
loop-i-preserved g c =
    let i = c.loop-i.invariant in
    let e = c.give_back.ensures in
    let lt : c.loop-i.i < length c.needs-needs.result = let n = c.len-i-end.ensures.count in let t = c.loop-i-test.true in omega (arith, n, t) in
    record {
      given = given_more c.args.map.now c.args.tile.now.core (g.D.Board.end c.args.end.now).lists c.requires.done.stopped c.requires.done.underway c.in-Some.x c.in-Some.y (sym c.in-Some.is ∙ c.in_hand.ensures) c.needs-needs.result (c.needs-needs.ensures ∙ ap (λ t. needs_of c.args.map.now t (site c.in-Some.x c.in-Some.y)) c.number.ensures) (g.D.Board.end c.loop-i.end).lists c.loop-i.i c.edge.result lt c.edge.ensures i.given (g.D.Board.end c.give_back.new.self).lists e.change.lists;
      same = same_end (g.D.Board.end c.args.end.now) (g.D.Board.end c.loop-i.end) (g.D.Board.end c.give_back.new.self) i.same e.change.same;
      moved = g.met.D.Board.moved_on c.args.end.now c.loop-i.end c.give_back.new.self i.moved e.moved;
    }

pub returns-clause-lists : goal.returns-clause-lists
returns-clause-lists g c =
    let i = c.loop-i.invariant in
    let n = c.len-i-end.ensures.count in
    let done : c.loop-i.i ≡ length c.needs-needs.result = let t = c.loop-i-test.false in let b = c.loop-i.auto.i-end in omega (arith, n, t, b) in
    given_all c.args.map.now c.args.tile.now.core (g.D.Board.end c.args.end.now).lists c.requires.done.stopped c.requires.done.underway c.in-Some.x c.in-Some.y (sym c.in-Some.is ∙ c.in_hand.ensures) c.needs-needs.result (c.needs-needs.ensures ∙ ap (λ t. needs_of c.args.map.now t (site c.in-Some.x c.in-Some.y)) c.number.ensures) (g.D.Board.end c.loop-i.end).lists
    (subst (λ k. AgreeOnEdges c.args.map.now c.args.tile.now.core.number (g.D.Board.end c.loop-i.end).lists (after_some (g.D.Board.end c.args.end.now).lists c.needs-needs.result k)) done i.given)
