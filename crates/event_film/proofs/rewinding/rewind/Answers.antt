use Rattle.std.proofs.Common.{◌≡◌, ◌≤◌, ◌<◌, ◌+◌, ◌-◌, arith, length, subst, take}
use Rattle.cell_grid.specs.Records.{replay}
use Rattle.event_film.specs.Rewinding.{IsAt, reel}
use Rattle.event_film.proofs.BackAgain.{alike_then, can_undo, taken_back}
use Rattle.event_film.proofs.rewinding.rewind.Goals as goal

pub undo-requires : goal.undo-requires
undo-requires g c =
    let after = g.B.Behave.after c.args.behave.now in
    let records = c.args.records.now in
    let n = length records in
    let k = n + c.args.count - (c.loop-taken._taken + 1) in
    let low : c.args.count ≤ c.loop-taken._taken = omega arith in
    let high : c.loop-taken._taken < n = omega arith in
    let next : n + c.args.count - c.loop-taken._taken ≡ k + 1 = omega (arith, low, high) in
    can_undo after c.args.start records k c.loop-taken.film c.loop-taken.grid (omega (arith, low, high)) c.requires.live c.loop-taken.invariant.plane
    (subst (λ q. IsAt after c.args.start records q (reel c.loop-taken.film c.loop-taken.grid)) next c.loop-taken.invariant.at)

pub loop-taken-preserved : goal.loop-taken-preserved
loop-taken-preserved g c =
    let after = g.B.Behave.after c.args.behave.now in
    let records = c.args.records.now in
    let n = length records in
    let k = n + c.args.count - (c.loop-taken._taken + 1) in
    let low : c.args.count ≤ c.loop-taken._taken = omega arith in
    let high : c.loop-taken._taken < n = omega arith in
    let next : n + c.args.count - c.loop-taken._taken ≡ k + 1 = omega (arith, low, high) in
    record {
      at = taken_back after c.args.start records k c.loop-taken.film c.undo.new.self c.loop-taken.grid c.undo.new.grid c.undo.result (omega (arith, low, high))
          (subst (λ q. IsAt after c.args.start records q (reel c.loop-taken.film c.loop-taken.grid)) next c.loop-taken.invariant.at) c.undo.ensures.undoes;
      plane = alike_then c.args.start c.loop-taken.grid c.undo.new.grid c.loop-taken.invariant.plane c.undo.ensures.plane;
    }

pub loop-taken-init : goal.loop-taken-init
loop-taken-init g c =
    let records = c.args.records.now in
    let all : length records ≡ length records + c.args.count - c.args.count = omega arith in
    record {
      at = subst (λ k. IsAt (g.B.Behave.after c.args.behave.now) c.args.start records k (reel c.run.new.film c.run.new.grid)) all c.run.ensures.at;
      plane = c.run.ensures.plane;
    }

pub returns : goal.returns
returns g c =
    let records = c.args.records.now in
    let left : length records + c.args.count - c.loop-taken._taken ≡ c.args.count = omega (arith, c.loop-taken-test.false, c.loop-taken.auto._taken-end, c.requires.count) in
    subst (λ k. c.loop-taken.grid ≡ replay (g.B.Behave.after c.args.behave.now) c.args.start (take k records)) left c.loop-taken.invariant.at.grid_is
