use Rattle.std.proofs.Common.{rules, arith, ap, sym, ◌∙◌, subst}
use Rattle.edge_lock.specs.EndLists.{IsHeld}
use Rattle.border_cache.specs.Borders.{site_of}
use Rattle.border_cache.specs.Windows.{IsEdgeFor}
use Rattle.border_cache.specs.Copies.{window_cells}
use Rattle.border_cache.proofs.Runs.{held_all}
use Rattle.border_cache.proofs.Needs.{rises, publishes_all_begin, publishes_all_more}
use Rattle.edge_lock.proofs.BoardLaws.{same_end, same_end_here}
use Rattle.border_cache.proofs.publish.publish_needs.Goals as goal

pub loop-i-init : goal.loop-i-init
loop-i-init g c =
    let v = c.args.cache.now in
    let s = site_of c.args.centre in
    record {
      published = publishes_all_begin v.map v.tile s (window_cells v s) (g.D.Board.end c.args.board.now).lists;
      same = same_end_here (g.D.Board.end c.args.board.now);
      moved = search rules;
    }

pub publish_on-requires-clause-edge : goal.publish_on-requires-clause-edge
publish_on-requires-clause-edge g c =
    let r = c.loop-i.invariant.published in
    let e = c.edge.result in
    let for = subst (IsEdgeFor c.args.map.now (g.D.Board.end c.args.board.now).registers (g.D.Board.end c.args.board.now).lists) (sym c.edge.ensures) (c.requires.needs c.loop-i.i 0 (omega (arith, c.loop-i-test.true, c.len-i-end.ensures.count))) in
    record {
      known = for.known;
      registers_on = ap (λ f. f e) c.loop-i.invariant.same.1 ∙ for.registers_on;
      held = subst IsHeld (sym (r.adds.lists e)) (held_all (r.more e) ((g.D.Board.end c.args.board.now).lists e) for.held);
    }

pub loop-i-preserved : goal.loop-i-preserved
loop-i-preserved g c =
    let i = c.loop-i.invariant in
    let q = c.publish_on.ensures.published in
    let v = c.args.cache.now in
    let s = site_of c.args.centre in
    record {
      published = publishes_all_more v.map v.tile s c.args.needs.now (window_cells v s) c.loop-i.i c.edge.result (omega (arith, c.loop-i-test.true, c.len-i-end.ensures.count)) (rises c.args.needs.now c.requires.rising) c.edge.ensures
          (g.D.Board.end c.args.board.now).lists (g.D.Board.end c.loop-i.board).lists (g.D.Board.end c.publish_on.new.board).lists q.0 i.published q.1 q.2;
      same = same_end (g.D.Board.end c.args.board.now) (g.D.Board.end c.loop-i.board) (g.D.Board.end c.publish_on.new.board) i.same c.publish_on.ensures.same;
      moved = search rules;
    }
