use Rattle.std.proofs.Common.{◌*◌, ◌<◌, ◌++◌, All, length, ap, subst, arith}
use Rattle.draw_stream.proofs.Plans.{taken_first}
use Rattle.draw_stream.specs.declared.attempt.Attempt.{Attempt}
use Rattle.world_runs.specs.OneTile.{events_from}
use Rattle.world_runs.proofs.Alone.{centres_left, fewer_left, one_event_more}
use Rattle.world_runs.proofs.one_tile.events.Goals as goal

pub loop-attempt-preserved : goal.loop-attempt-preserved
loop-attempt-preserved g c =
    let m = c.args.map.now in
    let list = c.loop-attempt.attempts in
    let rest = c.next.new.self in
    record {
      few = fewer_left c.loop-attempt.number 1000000 list rest c.in-Some.attempt c.in-Some.ensures c.loop-attempt.invariant.few;
      centres = centres_left (λ (a : Attempt). a.centre < m.w * m.h) list rest c.in-Some.attempt c.in-Some.ensures c.loop-attempt.invariant.centres;
      rest = one_event_more m c.loop-attempt.number c.loop-attempt.records.items c.push.new.self.items c.event_of.result c.in-Some.attempt list rest _ c.in-Some.ensures c.event_of.ensures c.in_ok-push.ensures.items c.loop-attempt.invariant.rest;
    }

pub event_of-requires-clause-number : goal.event_of-requires-clause-number
event_of-requires-clause-number g c =
    let first = taken_first c.loop-attempt.attempts c.next.new.self c.in-Some.attempt c.in-Some.ensures in
    omega (arith, ap length first, c.loop-attempt.invariant.few)

pub event_of-requires-clause-centre : goal.event_of-requires-clause-centre
event_of-requires-clause-centre g c =
    let m = c.args.map.now in
    let first = taken_first c.loop-attempt.attempts c.next.new.self c.in-Some.attempt c.in-Some.ensures in
    subst (All (λ (a : Attempt). a.centre < m.w * m.h)) first c.loop-attempt.invariant.centres 0 c.in-Some.attempt (omega arith)

pub loop-attempt-smaller : goal.loop-attempt-smaller
loop-attempt-smaller g c =
    let first = taken_first c.loop-attempt.attempts c.next.new.self c.in-Some.attempt c.in-Some.ensures in
    omega (arith, ap length first)

pub loop-attempt-init : goal.loop-attempt-init
loop-attempt-init g c = record {
  few = omega (arith, c.requires.few);
  centres = c.requires.centres;
  rest = ap (λ rs. rs ++ events_from c.args.map.now 0 c.args.attempts) c.new-records.ensures.items;
}

pub overflow_add-number : goal.overflow_add-number
overflow_add-number g c =
    let first = taken_first c.loop-attempt.attempts c.next.new.self c.in-Some.attempt c.in-Some.ensures in
    omega (arith, ap length first, c.loop-attempt.invariant.few)
