use Rattle.std.proofs.Common.{◌≡◌, refl, rules}
use Rattle.edge_lock.proofs.BoardLaws.{same_end, same_end_here}
use Rattle.tile_core.specs.declared.phase.Phase.TheVariants.{Lock}
use Rattle.tile_core.specs.Kept.{at}
use Rattle.tile_core.proofs.Attempts.{goes_nowhere, goes_on, goes_by, falls_by, ready_on, ready_in}
use Rattle.tile_core.proofs.state.State.take_edges.Goals as goal

pub loop-self-init : goal.loop-self-init
loop-self-init g c =
    let end = g.D.Board.end c.args.board.now in
    record {
      goes = λ meaning. goes_nowhere c.args.map.now meaning (at c.args.self.now end);
      room = c.requires.ready.1.room;
      same = same_end_here end;
      moved = g.met.D.Board.moved_same c.args.board.now;
    }

pub lock-requires-clause-phase : goal.lock-requires-clause-phase
lock-requires-clause-phase g c =
    let i = c.loop-self.invariant in
    let q = c.requires.ready in
    let is : c.loop-self.self.phase ≡ Lock = search rules in
    let end = g.D.Board.end c.loop-self.board in
    ready_in c.args.map.now q.0 c.loop-self.self end Lock (ready_on c.args.map.now q.0 c.args.self.now c.loop-self.self (g.D.Board.end c.args.board.now) end q.1 (i.goes q.0) i.room i.same) is

pub lock-requires-clause-board : goal.lock-requires-clause-board
lock-requires-clause-board g c =
    let i = c.loop-self.invariant in
    let q = c.requires.ready in
    (ready_on c.args.map.now q.0 c.args.self.now c.loop-self.self (g.D.Board.end c.args.board.now) (g.D.Board.end c.loop-self.board) q.1 (i.goes q.0) i.room i.same).board

pub loop-self-preserved : goal.loop-self-preserved
loop-self-preserved g c =
    let i = c.loop-self.invariant in
    let q = c.requires.ready in
    let e = c.lock.ensures in
    let is : c.loop-self.self.phase ≡ Lock = search rules in
    let m = c.args.map.now in
    let first = g.D.Board.end c.args.board.now in
    let end = g.D.Board.end c.loop-self.board in
    let next = g.D.Board.end c.lock.new.board in
    let ready = ready_on m q.0 c.args.self.now c.loop-self.self first end q.1 (i.goes q.0) i.room i.same in
    record {
      goes = λ meaning. goes_on m meaning (at c.args.self.now first) (at c.loop-self.self end) (at c.lock.new.self next) (i.goes meaning)
          (goes_by m meaning c.loop-self.self c.lock.new.self end next c.laws.ensures.plane ready.board Lock is e.tries refl);
      room = e.room;
      same = same_end first end next i.same e.same;
      moved = g.met.D.Board.moved_on c.args.board.now c.loop-self.board c.lock.new.board i.moved e.moved;
    }

pub loop-self-smaller : goal.loop-self-smaller
loop-self-smaller g c =
    let i = c.loop-self.invariant in
    let q = c.requires.ready in
    let is : c.loop-self.self.phase ≡ Lock = search rules in
    let m = c.args.map.now in
    let end = g.D.Board.end c.loop-self.board in
    let ready = ready_on m q.0 c.args.self.now c.loop-self.self (g.D.Board.end c.args.board.now) end q.1 (i.goes q.0) i.room i.same in
    falls_by m q.0 c.loop-self.self c.lock.new.self end (g.D.Board.end c.lock.new.board) ready Lock is c.lock.ensures.tries refl
