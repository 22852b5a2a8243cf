use Rattle.std.proofs.Common.{refl, ◌∙◌}
use Rattle.tile_core.specs.declared.phase.Phase.TheVariants.{Draw}
use Rattle.tile_core.specs.Kept.{value_of}
use Rattle.tile_core.proofs.Advance.{drawn_taken, same_number}
use Rattle.tile_core.proofs.Attempts.{goes_far, drawn_ready, ready_on, ready_in}
use Rattle.tile_core.proofs.state.State.attempt.Goals as goal

pub draw-requires-clause-phase : goal.draw-requires-clause-phase
draw-requires-clause-phase g c =
    let end = g.D.Board.end c.args.board.now in
    (end.lists, ready_in c.args.map.now (g.B.Behave.after c.args.behave.now) c.args.self.now end Draw c.requires.ready c.requires.draw)

pub take_edges-requires : goal.take_edges-requires
take_edges-requires g c =
    let m = c.args.map.now in
    let meaning = g.B.Behave.after c.args.behave.now in
    let s = c.args.self.now in
    let s1 = c.draw.new.self in
    let end = g.D.Board.end c.args.board.now in
    let ready = drawn_ready m meaning s s1 end c.laws.ensures.plane c.requires.ready c.requires.draw c.draw.ensures.draws c.draw.ensures.room in
    record { ready = (meaning, ready) }

pub event-requires : goal.event-requires
event-requires g c =
    let m = c.args.map.now in
    let meaning = g.B.Behave.after c.args.behave.now in
    let s = c.args.self.now in
    let s1 = c.draw.new.self in
    let end = g.D.Board.end c.args.board.now in
    let ready = drawn_ready m meaning s s1 end c.laws.ensures.plane c.requires.ready c.requires.draw c.draw.ensures.draws c.draw.ensures.room in
    let take = c.take_edges.ensures in
    let s2 = c.take_edges.new.self in
    let e1 = g.D.Board.end c.take_edges.new.board in
    let ready1 = ready_on m meaning s1 s2 end e1 ready (take.goes meaning) take.room take.same in
    record { ready = ready1 }

pub give_edges-requires : goal.give_edges-requires
give_edges-requires g c =
    let m = c.args.map.now in
    let meaning = g.B.Behave.after c.args.behave.now in
    let s = c.args.self.now in
    let s1 = c.draw.new.self in
    let end = g.D.Board.end c.args.board.now in
    let ready = drawn_ready m meaning s s1 end c.laws.ensures.plane c.requires.ready c.requires.draw c.draw.ensures.draws c.draw.ensures.room in
    let take = c.take_edges.ensures in
    let s2 = c.take_edges.new.self in
    let e1 = g.D.Board.end c.take_edges.new.board in
    let ready1 = ready_on m meaning s1 s2 end e1 ready (take.goes meaning) take.room take.same in
    let event = c.event.ensures in
    let s3 = c.event.new.self in
    let e2 = g.D.Board.end c.event.new.board in
    record { ready = (meaning, ready_on m meaning s2 s3 e1 e2 ready1 event.goes event.room event.same) }

pub returns-clause-far : goal.returns-clause-far
returns-clause-far g c start attempts u =
    let s = c.args.self.now in
    let s1 = c.draw.new.self in
    let m = c.args.map.now in
    let meaning = g.B.Behave.after c.args.behave.now in
    let end = g.D.Board.end c.args.board.now in
    let drawn = goes_far m meaning s s1 end end c.laws.ensures.plane c.requires.ready.board Draw c.requires.draw (c.draw.ensures.draws, refl) start attempts u in
    (c.give_edges.ensures.goes meaning).far start attempts (c.event.ensures.goes.far start attempts ((c.take_edges.ensures.goes meaning).far start attempts drawn))

pub returns-clause-taken : goal.returns-clause-taken
returns-clause-taken g c =
    let s = c.args.self.now in
    let s1 = c.draw.new.self in
    let m = c.args.map.now in
    let meaning = g.B.Behave.after c.args.behave.now in
    let end = g.D.Board.end c.args.board.now in
    (c.give_edges.ensures.goes meaning).taken ∙ (c.event.ensures.goes.taken ∙ ((c.take_edges.ensures.goes meaning).taken ∙ drawn_taken m meaning end.end_of (value_of s) (value_of s1) end.lists end.lists Draw refl (c.draw.ensures.draws, refl)))

pub returns-clause-number : goal.returns-clause-number
returns-clause-number g c =
    let s = c.args.self.now in
    let s1 = c.draw.new.self in
    let m = c.args.map.now in
    let meaning = g.B.Behave.after c.args.behave.now in
    let end = g.D.Board.end c.args.board.now in
    (c.give_edges.ensures.goes meaning).number ∙ (c.event.ensures.goes.number ∙ ((c.take_edges.ensures.goes meaning).number ∙ same_number m meaning end.end_of (value_of s) (value_of s1) end.lists end.lists Draw (c.draw.ensures.draws, refl)))
