use Rattle.std.proofs.Common.{rules, arith, ◌<◌, sym, subst}
use Rattle.edge_lock.specs.EndLists.{IsHeld}
use Rattle.border_cache.proofs.Runs.{held_all, adds_write}
use Rattle.border_cache.proofs.Needs.{rises}
use Rattle.tile_core.specs.Clocks.{IsHad}
use Rattle.tile_core.proofs.Clocking.{stamps_begin, stamps_more}
use Rattle.edge_lock.proofs.BoardLaws.{same_end, same_end_here}
use Rattle.tile_core.proofs.clocks.write_clocks.Goals as goal

pub loop-i-init : goal.loop-i-init
loop-i-init g c = record {
  done = stamps_begin c.args.stamp (g.D.Board.end c.args.board.now).lists;
  same = same_end_here (g.D.Board.end c.args.board.now);
  moved = search rules;
}

pub write-requires-clause-edge : goal.write-requires-clause-edge
write-requires-clause-edge g c =
    let v = c.loop-i.invariant in
    let had = subst (IsHad (g.D.Board.end c.args.board.now).registers (g.D.Board.end c.args.board.now).lists) (sym c.edge.ensures) (c.requires.had c.loop-i.i 0 (omega (arith, c.loop-i-test.true, c.len-i-end.ensures.count))) in
    subst (λ f. 0 < f c.edge.result) (sym v.same.1) had.some_registers

pub write-requires-clause-held : goal.write-requires-clause-held
write-requires-clause-held g c =
    let r = c.loop-i.invariant.done in
    let e = c.edge.result in
    let had = subst (IsHad (g.D.Board.end c.args.board.now).registers (g.D.Board.end c.args.board.now).lists) (sym c.edge.ensures) (c.requires.had c.loop-i.i 0 (omega (arith, c.loop-i-test.true, c.len-i-end.ensures.count))) in
    subst IsHeld (sym (r.adds.lists e)) (held_all (r.more e) ((g.D.Board.end c.args.board.now).lists e) had.held)

pub loop-i-preserved : goal.loop-i-preserved
loop-i-preserved g c =
    let v = c.loop-i.invariant in
    let b = (g.D.Board.end c.loop-i.board).lists in
    let d = (g.D.Board.end c.write.new.self).lists in
    let e = c.edge.result in
    record {
      done = stamps_more c.args.needs.now c.loop-i.i e (omega (arith, c.loop-i-test.true, c.len-i-end.ensures.count)) (rises c.args.needs.now c.requires.rising) c.edge.ensures c.args.stamp
          (g.D.Board.end c.args.board.now).lists b d v.done (adds_write b d e 0 c.args.stamp c.write.ensures.change.lists);
      same = same_end (g.D.Board.end c.args.board.now) (g.D.Board.end c.loop-i.board) (g.D.Board.end c.write.new.self) v.same c.write.ensures.change.same;
      moved = search rules;
    }
