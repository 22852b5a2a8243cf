use Rattle.std.proofs.Common.{◌≡◌, refl, ap, rules}
use Rattle.edge_lock.proofs.BoardLaws.{same_end_here}
use Rattle.tile_core.specs.declared.phase.Phase.TheVariants.{Refresh, Behave, Write}
use Rattle.tile_core.specs.Kept.{at}
use Rattle.tile_core.specs.Values.{TileValue}
use Rattle.tile_core.proofs.Attempts.{goes_on, goes_by, ready_on, ready_in}
use Rattle.tile_core.proofs.state.State.event.Goals as goal

pub returns-then-ne-2-clause-goes : goal.returns-then-ne-2-clause-goes
returns-then-ne-2-clause-goes g c =
    let m = c.args.map.now in
    let meaning = g.B.Behave.after c.args.behave.now in
    let s = c.args.self.now in
    let s1 = c.refresh.new.self in
    let end = g.D.Board.end c.args.board.now in
    let e1 = g.D.Board.end c.refresh.new.board in
    let is : s.phase ≡ Refresh = search rules in
    let goes = goes_by m meaning s s1 end e1 c.laws.ensures.plane c.requires.ready.board Refresh is c.refresh.ensures.refreshes refl in
    goes

pub behave-requires-clause-phase : goal.behave-requires-clause-phase
behave-requires-clause-phase g c =
    let m = c.args.map.now in
    let meaning = g.B.Behave.after c.args.behave.now in
    let s = c.args.self.now in
    let s1 = c.refresh.new.self in
    let end = g.D.Board.end c.args.board.now in
    let e1 = g.D.Board.end c.refresh.new.board in
    let is : s.phase ≡ Refresh = search rules in
    let goes = goes_by m meaning s s1 end e1 c.laws.ensures.plane c.requires.ready.board Refresh is c.refresh.ensures.refreshes refl in
    let ready = ready_on m meaning s s1 end e1 c.requires.ready goes c.refresh.ensures.room c.refresh.ensures.same in
    let is1 : s1.phase ≡ Behave = search rules in
    (e1.lists, ready_in m meaning s1 e1 Behave ready is1)

pub write-requires-clause-phase : goal.write-requires-clause-phase
write-requires-clause-phase g c =
    let m = c.args.map.now in
    let meaning = g.B.Behave.after c.args.behave.now in
    let s = c.args.self.now in
    let s1 = c.refresh.new.self in
    let end = g.D.Board.end c.args.board.now in
    let e1 = g.D.Board.end c.refresh.new.board in
    let is : s.phase ≡ Refresh = search rules in
    let goes = goes_by m meaning s s1 end e1 c.laws.ensures.plane c.requires.ready.board Refresh is c.refresh.ensures.refreshes refl in
    let ready = ready_on m meaning s s1 end e1 c.requires.ready goes c.refresh.ensures.room c.refresh.ensures.same in
    let is1 : s1.phase ≡ Behave = search rules in
    let s2 = c.behave.new.self in
    let goes1 = goes_by m meaning s1 s2 e1 e1 c.laws.ensures.plane ready.board Behave is1 (c.behave.ensures.behaves, refl) refl in
    let ready1 = ready_on m meaning s1 s2 e1 e1 ready goes1 c.behave.ensures.room (same_end_here e1) in
    let is2 : s2.phase ≡ Write = ap (λ (t : TileValue). t.phase) c.behave.ensures.behaves.is in
    ready_in m meaning s2 e1 Write ready1 is2

pub write-requires-clause-board : goal.write-requires-clause-board
write-requires-clause-board g c =
    let m = c.args.map.now in
    let meaning = g.B.Behave.after c.args.behave.now in
    let s = c.args.self.now in
    let s1 = c.refresh.new.self in
    let end = g.D.Board.end c.args.board.now in
    let e1 = g.D.Board.end c.refresh.new.board in
    let is : s.phase ≡ Refresh = search rules in
    let goes = goes_by m meaning s s1 end e1 c.laws.ensures.plane c.requires.ready.board Refresh is c.refresh.ensures.refreshes refl in
    let ready = ready_on m meaning s s1 end e1 c.requires.ready goes c.refresh.ensures.room c.refresh.ensures.same in
    let is1 : s1.phase ≡ Behave = search rules in
    let s2 = c.behave.new.self in
    let goes1 = goes_by m meaning s1 s2 e1 e1 c.laws.ensures.plane ready.board Behave is1 (c.behave.ensures.behaves, refl) refl in
    let ready1 = ready_on m meaning s1 s2 e1 e1 ready goes1 c.behave.ensures.room (same_end_here e1) in
    let is2 : s2.phase ≡ Write = ap (λ (t : TileValue). t.phase) c.behave.ensures.behaves.is in
    ready1.board

pub returns-clause-goes : goal.returns-clause-goes
returns-clause-goes g c =
    let m = c.args.map.now in
    let meaning = g.B.Behave.after c.args.behave.now in
    let s = c.args.self.now in
    let s1 = c.refresh.new.self in
    let end = g.D.Board.end c.args.board.now in
    let e1 = g.D.Board.end c.refresh.new.board in
    let is : s.phase ≡ Refresh = search rules in
    let goes = goes_by m meaning s s1 end e1 c.laws.ensures.plane c.requires.ready.board Refresh is c.refresh.ensures.refreshes refl in
    let ready = ready_on m meaning s s1 end e1 c.requires.ready goes c.refresh.ensures.room c.refresh.ensures.same in
    let is1 : s1.phase ≡ Behave = search rules in
    let s2 = c.behave.new.self in
    let goes1 = goes_by m meaning s1 s2 e1 e1 c.laws.ensures.plane ready.board Behave is1 (c.behave.ensures.behaves, refl) refl in
    let ready1 = ready_on m meaning s1 s2 e1 e1 ready goes1 c.behave.ensures.room (same_end_here e1) in
    let is2 : s2.phase ≡ Write = ap (λ (t : TileValue). t.phase) c.behave.ensures.behaves.is in
    let s3 = c.write.new.self in
    let e2 = g.D.Board.end c.write.new.board in
    let goes2 = goes_by m meaning s2 s3 e1 e2 c.laws.ensures.plane ready1.board Write is2 c.write.ensures.writes refl in
    goes_on m meaning (at s end) (at s1 e1) (at s3 e2) goes (goes_on m meaning (at s1 e1) (at s2 e1) (at s3 e2) goes1 goes2)
