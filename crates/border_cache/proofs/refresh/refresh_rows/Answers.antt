use Rattle.std.proofs.Common.{rules, arith, ◌≤◌, ◌+◌, [], ◌++◌, sym, subst}
use Rattle.tile_map.proofs.Numbers.{size_low}
use Rattle.tile_map.proofs.PlaneLaws.{plane}
use Rattle.border_cache.specs.Borders.{IsAreaOf, site_of}
use Rattle.border_cache.specs.News.{NewsIn}
use Rattle.border_cache.specs.Shared.{IsInRow, IsInWindowOf}
use Rattle.border_cache.proofs.Open.{open_adds, centre_stays}
use Rattle.border_cache.proofs.Runs.{adds_none, adds_then}
use Rattle.border_cache.proofs.Taken.{takes_none, takes_news, takes_same}
use Rattle.border_cache.proofs.SharedRuns.{IsAbove, above_none, above_or, or_above, above_apart, above_all, all_above}
use Rattle.edge_lock.proofs.BoardLaws.{same_end, same_end_here}
use Rattle.border_cache.proofs.refresh.refresh_rows.Goals as goal

pub loop-j-init : goal.loop-j-init
loop-j-init g c =
    let a = c.args.area in
    let s = site_of c.args.centre in
    record {
      read = ([], adds_none (g.D.Board.end c.args.board.now).lists c.args.news.now.border.edge, takes_none c.args.news.now.border.edge (NewsIn c.args.news.now.words (IsAbove a s c.rows_of-first.result.0)) c.args.cache.now (λ k h. above_none a s c.rows_of-first.result.0 c.rows_of-first.result.1 k c.rows_of-first.ensures h.0));
      same = same_end_here (g.D.Board.end c.args.board.now);
      moved = search rules;
    }

pub refresh_row-requires-clause-j : goal.refresh_row-requires-clause-j
refresh_row-requires-clause-j g c = let few = c.rows_of-first.ensures.few in omega (arith, c.loop-j-test.true, few)

pub refresh_row-requires-clause-centre : goal.refresh_row-requires-clause-centre
refresh_row-requires-clause-centre g c =
    let t = c.loop-j.invariant.read.2 in
    centre_stays c.args.cache.now c.loop-j.cache c.args.centre t.map t.tile c.requires.centre

pub refresh_row-requires-clause-area : goal.refresh_row-requires-clause-area
refresh_row-requires-clause-area g c = subst (λ m. IsAreaOf m c.args.area c.args.news.now.border) (sym c.loop-j.invariant.read.2.map) c.requires.area

pub refresh_row-requires-clause-hold : goal.refresh_row-requires-clause-hold
refresh_row-requires-clause-hold g c =
    let r = c.loop-j.invariant.read in
    open_adds (g.D.Board.end c.args.board.now) (g.D.Board.end c.loop-j.board) c.args.news.now.border r.0 c.requires.hold c.loop-j.invariant.same r.1

pub loop-j-preserved : goal.loop-j-preserved
loop-j-preserved g c =
    let i = c.loop-j.invariant in
    let p = i.read in
    let q = c.refresh_row.ensures.read in
    let b = (g.D.Board.end c.loop-j.board).lists in
    let d = (g.D.Board.end c.refresh_row.new.board).lists in
    let a = c.args.area in
    let s = site_of c.args.centre in
    let j = c.loop-j.j in
    record {
      read = (
        p.0 ++ q.0,
        adds_then (g.D.Board.end c.args.board.now).lists b d c.args.news.now.border.edge p.0 q.0 c.requires.hold.held p.1 q.1,
        takes_news c.args.news.now.border.edge c.args.news.now.words (IsAbove a s j) (IsInRow a s j) (IsAbove a s (j + 1)) c.args.cache.now c.loop-j.cache c.refresh_row.new.cache p.0 q.0 p.2 q.2 (above_apart a s j) (or_above a s j) (above_or a s j),
      );
      same = same_end (g.D.Board.end c.args.board.now) (g.D.Board.end c.loop-j.board) (g.D.Board.end c.refresh_row.new.board) i.same c.refresh_row.ensures.same;
      moved = search rules;
    }

pub returns-clause-read : goal.returns-clause-read
returns-clause-read g c =
    let p = c.loop-j.invariant.read in
    let v = c.args.cache.now in
    let a = c.args.area in
    let s = site_of c.args.centre in
    let j = c.loop-j.j in
    let e = c.args.news.now.border.edge in
    let news = c.args.news.now.words in
    let rows = c.rows_of-first in
    let all : rows.result.1 ≤ j = omega (arith, c.loop-j-test.false) in
    let laws = plane v.map c.requires.centre.plane.valid in
    (p.0, p.1, takes_same e (NewsIn news (IsAbove a s j)) (NewsIn news (IsInWindowOf v.map s e)) v c.loop-j.cache p.0 (λ k h. (all_above v laws a s e c.requires.area.shared.0 c.requires.centre.holds j k h.0, h.1)) (λ k h. (above_all v laws a s e c.requires.area.shared.0 c.requires.centre.holds rows.result.0 rows.result.1 j k rows.ensures all h.0, h.1)) p.2)

pub rows_of-first-requires-clause-y : goal.rows_of-first-requires-clause-y
rows_of-first-requires-clause-y g c =
    let m = c.args.cache.now.map in
    let s = c.requires.centre.plane.valid.sizes in
    let high = size_low m.ty m.h s.ty_high s.h_high in
    omega (arith, c.requires.centre.plane.y, high)
