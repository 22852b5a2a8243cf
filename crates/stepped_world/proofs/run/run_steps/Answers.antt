use Rattle.std.proofs.Common.{refl}
use Rattle.stepped_world.proofs.Following.{then_on}
use Rattle.stepped_world.proofs.Starts.{first_underway}
use Rattle.stepped_world.specs.Running.{steps_by, rest_of_all}
use Rattle.stepped_world.proofs.Whole.{steps_then_rest, all_run, as_stepped}
use Rattle.stepped_world.proofs.run.run_steps.Goals as goal

pub follow-requires-clause-ready : goal.follow-requires-clause-ready
follow-requires-clause-ready g c = let r = c.requires.start in (r.0, first_underway g.B.Behave.after c.args.map.now r.0 c.args.tiles.now c.args.board.now r.1)

pub finish_all-requires : goal.finish_all-requires
finish_all-requires g c = let r = c.requires.start in record { ready = (r.0, c.follow.ensures.follows.2.underway r.0 (first_underway g.B.Behave.after c.args.map.now r.0 c.args.tiles.now c.args.board.now r.1)) }

pub returns-clause-run : goal.returns-clause-run
returns-clause-run g c = λ k s.
    let m = c.args.map.now in
    let f = c.follow.ensures.follows in
    all_run g.B.Behave.after m c.laws.ensures.valid c.args.tiles.now c.finish_all.new.tiles c.args.board.now c.finish_all.new.board f.0
    (then_on g.B.Behave.after m c.args.tiles.now c.follow.new.tiles c.finish_all.new.tiles c.args.board.now c.follow.new.board c.finish_all.new.board (steps_by f.0) rest_of_all (steps_then_rest f.0) (λ meaning s. refl) f.2 c.finish_all.ensures.follows)
    c.finish_all.ensures.still k s

pub returns-clause-stepped : goal.returns-clause-stepped
returns-clause-stepped g c =
    let m = c.args.map.now in
    let f = c.follow.ensures.follows in (
      f.0,
      f.1,
      λ k s.
          as_stepped g.B.Behave.after m c.laws.ensures.valid c.args.tiles.now c.finish_all.new.tiles c.args.board.now c.finish_all.new.board f.0
          (then_on g.B.Behave.after m c.args.tiles.now c.follow.new.tiles c.finish_all.new.tiles c.args.board.now c.follow.new.board c.finish_all.new.board (steps_by f.0) rest_of_all (steps_then_rest f.0) (λ meaning s. refl) f.2 c.finish_all.ensures.follows)
          c.finish_all.ensures.still k s,
    )
