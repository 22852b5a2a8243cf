use Rattle.std.proofs.Common.{◌<◌, ◌++◌, ◌∷◌, [], subst, refl, Some}
use Rattle.std.specs.Iterator.{Yields}
use Rattle.std.proofs.iter.Next.{Yields-more}
use Rattle.std.proofs.lemmas.List.Elements.{All-pop}
use Rattle.tile_map.specs.Plane.{tiles_of}
use Rattle.stepped_world.proofs.Following.{more_steps}
use Rattle.stepped_world.proofs.run.follow.Goals as goal

pub step_unless_still-requires-clause-tile : goal.step_unless_still-requires-clause-tile
step_unless_still-requires-clause-tile g c =
    let xs = c.loop-tile.yielded in
    let x = c.in-Some.tile in
    let more = Yields-more g.O.Iterator.next_gives c.into_iter-tile-iterator.result xs c.loop-tile.tile-iterator x c.next.new.self c.loop-tile.yielded_by c.in-Some.ensures.steps in
    (All-pop (λ t. t < tiles_of c.args.map.now) (xs ++ x ∷ []) xs (Some x) refl (c.requires.names (xs ++ x ∷ []) c.next.new.self (subst (λ i. Yields g.O.Iterator.next_gives i (xs ++ x ∷ []) c.next.new.self) c.into_iter-tile-iterator.ensures.into_iter_gives more))).1

pub step_unless_still-requires-clause-ready : goal.step_unless_still-requires-clause-ready
step_unless_still-requires-clause-ready g c = let r = c.requires.ready in (r.0, c.loop-tile.invariant.done.underway r.0 r.1)

pub loop-tile-preserved : goal.loop-tile-preserved
loop-tile-preserved g c =
    let i = c.loop-tile.invariant in
    let goes = c.in-Some.ensures.goes.on i.ends in
    record {
      can = goes.0;
      ends = goes.1;
      done = more_steps g.B.Behave.after c.args.map.now c.args.tiles.now c.loop-tile.tiles c.step_unless_still.new.tiles c.args.board.now c.loop-tile.board c.step_unless_still.new.board c.loop-tile.yielded c.in-Some.tile i.done c.step_unless_still.ensures.follows;
    }
