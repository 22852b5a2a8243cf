use Rattle.std.proofs.Common.{sym, ◌∙◌, arith}
use Rattle.stepped_world.proofs.Following.{step_of_finish, rests}
use Rattle.stepped_world.proofs.run.finish_one.Goals as goal

pub step_one-requires-clause-ready : goal.step_one-requires-clause-ready
step_one-requires-clause-ready g c = let r = c.requires.ready in (r.0, c.loop-tiles.invariant.keeps r.0 r.1)

pub loop-tiles-preserved : goal.loop-tiles-preserved
loop-tiles-preserved g c =
    let i = c.loop-tiles.invariant in
    let f = c.step_one.ensures.follows in
    record {
      keeps = λ k u. f.underway k (i.keeps k u);
      rest = λ zs d p. i.rest zs d (step_of_finish g.B.Behave.after c.args.map.now c.loop-tiles.tiles c.step_one.new.tiles zs c.loop-tiles.board c.step_one.new.board d c.args.tile f p);
    }

pub returns-clause-follows : goal.returns-clause-follows
returns-clause-follows g c =
    let i = c.loop-tiles.invariant in
    let r = c.requires.ready in
    let n = (i.keeps r.0 r.1).count in let lt = c.requires.tile in
    let still = sym c.stands_still.ensures ∙ c.loop-tiles-test.false in
    i.rest c.loop-tiles.tiles c.loop-tiles.board (rests g.B.Behave.after c.args.map.now c.loop-tiles.tiles c.loop-tiles.board c.args.tile (omega (arith, n, lt)) still)
