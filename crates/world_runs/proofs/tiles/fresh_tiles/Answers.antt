use Rattle.std.proofs.Common.{◌≡◌, ◌++◌, List, length, map, ap, sym, subst, ◌∙◌, arith}
use Rattle.std.specs.Prelude.{slice_get}
use Rattle.tile_map.proofs.Numbers.{tiles_few}
use Rattle.draw_stream.specs.Plans.{attempts}
use Rattle.tile_core.specs.Underway.{IsFreshTile}
use Rattle.tile_core.specs.Values.{TileWith, atoms_of}
use Rattle.world_runs.proofs.Beginning.{EachFresh, acts_all, acts_more, fresh_more, made_fewer, none_left}
use Rattle.world_runs.proofs.tiles.fresh_tiles.Goals as goal

pub loop-behave-init : goal.loop-behave-init
loop-behave-init g c =
    let none = c.new-tiles.ensures.items in
    record {
      fresh = λ t x at. absurd (cc (sym (ap (λ (xs : List (TileWith g.row.B.Denot)). slice_get xs t) none) ∙ at));
      acts = ap (λ (xs : List (TileWith g.row.B.Denot)). map (λ (x : TileWith g.row.B.Denot). x.behave) xs ++ c.into_iter-behave-iterator.result.rest.items) none ∙ c.into_iter-behave-iterator.ensures.into_iter_gives.0;
      count = c.into_iter-behave-iterator.ensures.into_iter_gives.1 ∙ (c.args.behaves.ok.0 ∙ ap length (sym c.into_iter-behave-iterator.ensures.into_iter_gives.0));
    }

pub count-requires : goal.count-requires
count-requires g c =
    let fewer = made_fewer c.loop-behave.tiles.items c.in-Some.behave c.next.new.self.rest.items c.loop-behave.behave-iterator.rest.items c.args.behaves.items c.in-Some.ensures.steps.0 c.loop-behave.invariant.acts in
    let most = tiles_few c.args.map.now c.laws.ensures.valid in
    let same = c.as_slice.ensures.value in
    let long = ap length same in
    let one = c.requires.one in
    omega (arith, fewer, most, long, one)

pub fresh_tile-requires-clause-tile : goal.fresh_tile-requires-clause-tile
fresh_tile-requires-clause-tile g c =
    let fewer = made_fewer c.loop-behave.tiles.items c.in-Some.behave c.next.new.self.rest.items c.loop-behave.behave-iterator.rest.items c.args.behaves.items c.in-Some.ensures.steps.0 c.loop-behave.invariant.acts in
    let number = c.count.ensures in
    let long = ap length c.as_slice.ensures.value in
    let one = c.requires.one in
    let lists = c.requires.lists in
    omega (arith, fewer, number, long, one, lists)

pub fresh_tile-requires-clause-can : goal.fresh_tile-requires-clause-can
fresh_tile-requires-clause-can g c =
    let fewer = made_fewer c.loop-behave.tiles.items c.in-Some.behave c.next.new.self.rest.items c.loop-behave.behave-iterator.rest.items c.args.behaves.items c.in-Some.ensures.steps.0 c.loop-behave.invariant.acts in
    let number = c.count.ensures in
    let long = ap length c.as_slice.ensures.value in
    let one = c.requires.one in
    c.requires.can c.count.result (omega (arith, fewer, number, long, one))

pub loop-behave-preserved : goal.loop-behave-preserved
loop-behave-preserved g c =
    let m = c.args.map.now in
    let start = c.args.start.now in
    let plan = c.args.plan.now in
    let tiles = c.loop-behave.tiles.items in
    let tile = c.in_ok-tile.tile in
    let number : c.count.result ≡ length tiles = c.count.ensures ∙ ap length c.as_slice.ensures.value in
    let more = c.in_ok-push.ensures.items in
    let steps = c.in-Some.ensures.steps in
    let fewer = steps.1 in
    let before = ap length steps.0 in
    let count = c.loop-behave.invariant.count in
    record {
      fresh = subst (EachFresh m start plan) (sym more) (fresh_more m start plan tiles tile c.loop-behave.invariant.fresh (subst (λ n. IsFreshTile m n (atoms_of start) (attempts plan n) tile.core) number c.in_ok-tile.ensures.fresh));
      acts = ap (λ (xs : List (TileWith g.row.B.Denot)). map (λ (x : TileWith g.row.B.Denot). x.behave) xs ++ c.next.new.self.rest.items) more
          ∙ acts_more tiles tile c.in-Some.behave c.next.new.self.rest.items c.loop-behave.behave-iterator.rest.items c.args.behaves.items c.in_ok-tile.ensures.acts c.in-Some.ensures.steps.0 c.loop-behave.invariant.acts;
      count = omega (arith, fewer, before, count);
    }

pub returns : goal.returns
returns g c =
    let none = none_left c.loop-behave.behave-iterator.rest.items (sym c.loop-behave.invariant.count ∙ c.in-None.ensures.steps.0) in
    record { fresh = c.loop-behave.invariant.fresh; acts = acts_all c.loop-behave.tiles.items c.loop-behave.behave-iterator.rest.items c.args.behaves.items none c.loop-behave.invariant.acts }
