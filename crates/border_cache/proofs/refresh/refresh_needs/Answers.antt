use Rattle.std.proofs.Common.{rules, arith, ap, ◌∙◌, sym, subst}
use Rattle.edge_lock.specs.EndLists.{IsHeld}
use Rattle.border_cache.specs.Borders.{site_of}
use Rattle.border_cache.specs.Windows.{IsEdgeFor}
use Rattle.border_cache.proofs.Open.{centre_kept}
use Rattle.border_cache.proofs.Runs.{held_all}
use Rattle.border_cache.proofs.Needs.{rises, refreshed_more}
use Rattle.border_cache.proofs.Stored.{refreshed_none}
use Rattle.edge_lock.proofs.BoardLaws.{same_end, same_end_here}
use Rattle.border_cache.proofs.refresh.refresh_needs.Goals as goal

pub loop-i-init : goal.loop-i-init
loop-i-init g c = record {
  refreshed = refreshed_none (site_of c.args.centre) c.args.cache.now (g.D.Board.end c.args.board.now).lists;
  same = same_end_here (g.D.Board.end c.args.board.now);
  moved = search rules;
}

pub refresh_on-requires-clause-centre : goal.refresh_on-requires-clause-centre
refresh_on-requires-clause-centre g c =
    let d = c.loop-i.invariant.refreshed.stores.differs in
    centre_kept c.args.map.now c.args.cache.now c.loop-i.cache c.args.centre d.map d.tile c.requires.centre

pub refresh_on-requires-clause-edge : goal.refresh_on-requires-clause-edge
refresh_on-requires-clause-edge g c =
    let r = c.loop-i.invariant.refreshed in
    let e = c.edge.result in
    let for = subst (IsEdgeFor c.args.map.now (g.D.Board.end c.args.board.now).registers (g.D.Board.end c.args.board.now).lists) (sym c.edge.ensures) (c.requires.needs c.loop-i.i 0 (omega (arith, c.loop-i-test.true, c.len-i-end.ensures.count))) in
    record {
      known = for.known;
      registers_on = ap (λ f. f e) c.loop-i.invariant.same.1 ∙ for.registers_on;
      held = subst IsHeld (sym (r.adds.lists e)) (held_all (r.more e) ((g.D.Board.end c.args.board.now).lists e) for.held);
    }

pub loop-i-preserved : goal.loop-i-preserved
loop-i-preserved g c =
    let i = c.loop-i.invariant in
    record {
      refreshed = refreshed_more (site_of c.args.centre) c.args.needs.now c.loop-i.i c.edge.result (omega (arith, c.loop-i-test.true, c.len-i-end.ensures.count)) (rises c.args.needs.now c.requires.rising) c.edge.ensures
          (g.D.Board.end c.args.board.now).lists (g.D.Board.end c.loop-i.board).lists (g.D.Board.end c.refresh_on.new.board).lists c.args.cache.now c.loop-i.cache c.refresh_on.new.cache i.refreshed c.refresh_on.ensures.refreshes;
      same = same_end (g.D.Board.end c.args.board.now) (g.D.Board.end c.loop-i.board) (g.D.Board.end c.refresh_on.new.board) i.same c.refresh_on.ensures.same;
      moved = search rules;
    }
