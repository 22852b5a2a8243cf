use Rattle.std.proofs.Common.{rules, arith, ◌<◌, ◌+◌, take, sym, subst}
use Rattle.edge_lock.specs.EndLists.{IsHeld}
use Rattle.border_cache.proofs.Runs.{held_all, adds_read}
use Rattle.border_cache.proofs.Needs.{rises}
use Rattle.tile_core.specs.Clocks.{IsHad, ReadsClocks}
use Rattle.tile_core.proofs.Clocking.{clocks_begin, clocks_more}
use Rattle.edge_lock.proofs.BoardLaws.{same_end, same_end_here}
use Rattle.tile_core.proofs.clocks.read_clocks.Goals as goal

pub loop-i-init : goal.loop-i-init
loop-i-init g c = record {
  done = clocks_begin c.args.least (g.D.Board.end c.args.board.now).lists;
  same = same_end_here (g.D.Board.end c.args.board.now);
  moved = search rules;
}

pub read-clock-requires-clause-edge : goal.read-clock-requires-clause-edge
read-clock-requires-clause-edge g c =
    let v = c.loop-i.invariant in
    let had = subst (IsHad (g.D.Board.end c.args.board.now).registers (g.D.Board.end c.args.board.now).lists) (sym c.edge.ensures) (c.requires.had c.loop-i.i 0 (omega (arith, c.loop-i-test.true, c.len-i-end.ensures.count))) in
    subst (λ f. 0 < f c.edge.result) (sym v.same.1) had.some_registers

pub read-clock-requires-clause-held : goal.read-clock-requires-clause-held
read-clock-requires-clause-held g c =
    let r = c.loop-i.invariant.done in
    let e = c.edge.result in
    let had = subst (IsHad (g.D.Board.end c.args.board.now).registers (g.D.Board.end c.args.board.now).lists) (sym c.edge.ensures) (c.requires.had c.loop-i.i 0 (omega (arith, c.loop-i-test.true, c.len-i-end.ensures.count))) in
    subst IsHeld (sym (r.adds.lists e)) (held_all (r.more e) ((g.D.Board.end c.args.board.now).lists e) had.held)

pub loop-i-preserved : goal.loop-i-preserved
loop-i-preserved g c =
    let v = c.loop-i.invariant in
    let b = (g.D.Board.end c.loop-i.board).lists in
    let d = (g.D.Board.end c.read-clock.new.self).lists in
    let e = c.edge.result in
    let x = c.read-clock.result in
    record {
      done = subst (λ top. ReadsClocks (take (c.loop-i.i + 1) c.args.needs.now) c.args.least top (g.D.Board.end c.args.board.now).lists d) (sym c.max-greatest.ensures) (clocks_more c.args.needs.now c.loop-i.i e (omega (arith, c.loop-i-test.true, c.len-i-end.ensures.count)) (rises c.args.needs.now c.requires.rising) c.edge.ensures c.args.least c.loop-i.greatest x
          (g.D.Board.end c.args.board.now).lists b d v.done (adds_read b d e 0 x c.read-clock.ensures.change.lists c.read-clock.ensures.value));
      same = same_end (g.D.Board.end c.args.board.now) (g.D.Board.end c.loop-i.board) (g.D.Board.end c.read-clock.new.self) v.same c.read-clock.ensures.change.same;
      moved = search rules;
    }
