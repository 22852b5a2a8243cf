use Rattle.std.proofs.Common.{◌≡◌, ◌≢◌, ◌<◌, ◌+◌, ℕ, true, sym, subst, arith, ⊎_elim, slice_get}
use Rattle.std.specs.List.{range_with_len}
use Rattle.std.proofs.lemmas.Bool.{cases_eq}
use Rattle.tile_map.specs.Plane.{tiles_of}
use Rattle.stepped_world.specs.Running.{rest_by, on_board, Follows, stands_still}
use Rattle.stepped_world.proofs.Following.{more_finished}
use Rattle.stepped_world.proofs.run.finish_all.Goals as goal

pub finish_one-requires-clause-ready : goal.finish_one-requires-clause-ready
finish_one-requires-clause-ready g c = let r = c.requires.ready in (r.0, c.loop-tile.invariant.done.underway r.0 r.1)

pub loop-tile-preserved : goal.loop-tile-preserved
loop-tile-preserved g c =
    let i = c.loop-tile.invariant in
    let f = c.finish_one.ensures in
    record {
      done = more_finished g.B.Behave.after c.args.map.now c.args.tiles.now c.loop-tile.tiles c.finish_one.new.tiles c.args.board.now c.loop-tile.board c.finish_one.new.board c.loop-tile.tile i.done f.follows;
      still = λ t lt. ⊎_elim {C = stands_still (slice_get c.finish_one.new.tiles t) ≡ true}
          (λ (e : t ≡ c.loop-tile.tile). subst (λ n. stands_still (slice_get c.finish_one.new.tiles n) ≡ true) (sym e) f.still)
          (λ ne. f.follows.still t (i.still t (below t c.loop-tile.tile lt ne)))
          (cases_eq t c.loop-tile.tile);
    }
  where
    below : (a b : ℕ) → a < b + 1 → a ≢ b → a < b
    below a b lt ne = omega (arith, lt, ne)

pub returns-clause-follows : goal.returns-clause-follows
returns-clause-follows g c =
    let n = c.tiles-tile-end.ensures.count in let past = c.loop-tile-test.false in let end = c.loop-tile.auto.tile-end in
    let e : c.loop-tile.tile ≡ tiles_of c.args.map.now = omega (arith, n, past, end) in
    let f = subst (λ k. Follows g.B.Behave.after c.args.map.now (on_board c.args.tiles.now c.args.board.now) (on_board c.loop-tile.tiles c.loop-tile.board) (rest_by (range_with_len 0 k))) e c.loop-tile.invariant.done in
    record { underway = f.underway; like = f.like; still = f.still; sizes = f.sizes }

pub returns-clause-still : goal.returns-clause-still
returns-clause-still g c = λ t lt. c.loop-tile.invariant.still t (omega (arith, lt, c.tiles-tile-end.ensures.count, c.loop-tile-test.false, c.loop-tile.auto.tile-end))
