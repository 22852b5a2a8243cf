use Rattle.std.proofs.Common.{rules, arith, ◌≡◌, ◌<◌, ◌+◌, ℕ, Option, Some, [], ◌++◌, subst}
use Rattle.border_cache.specs.Borders.{site_of}
use Rattle.border_cache.specs.News.{Covers, NewsIn}
use Rattle.border_cache.specs.Shared.{TakesAt}
use Rattle.border_cache.specs.Windows.{place_in}
use Rattle.border_cache.proofs.Apart.{places_apart}
use Rattle.border_cache.proofs.Open.{open_adds, centre_kept}
use Rattle.border_cache.proofs.Runs.{adds_none, adds_then}
use Rattle.border_cache.proofs.Taken.{takes_none, takes_news}
use Rattle.border_cache.proofs.SharedRuns.{no_site, or_site}
use Rattle.border_cache.proofs.Refreshes.{covers_last}
use Rattle.edge_lock.proofs.BoardLaws.{same_end, same_end_here}
use Rattle.border_cache.proofs.refresh.refresh_sites.Goals as goal

pub loop-n-init : goal.loop-n-init
loop-n-init g c =
    let v = c.args.cache.now in
    let p = place_in v.map (site_of c.args.centre) c.args.news.now.border.edge in
    record {
      read = ([], adds_none (g.D.Board.end c.args.board.now).lists c.args.news.now.border.edge, takes_none c.args.news.now.border.edge (NewsIn c.args.news.now.words (Covers p 0)) v (λ k h. no_site p k h.0));
      same = same_end_here (g.D.Board.end c.args.board.now);
      moved = search rules;
    }

pub refresh_site-requires-clause-centre : goal.refresh_site-requires-clause-centre
refresh_site-requires-clause-centre g c =
    let t = c.loop-n.invariant.read.2 in
    centre_kept c.args.map.now c.args.cache.now c.loop-n.cache c.args.centre t.map t.tile c.requires.centre

pub refresh_site-requires-clause-hold : goal.refresh_site-requires-clause-hold
refresh_site-requires-clause-hold g c =
    let r = c.loop-n.invariant.read in
    open_adds (g.D.Board.end c.args.board.now) (g.D.Board.end c.loop-n.board) c.args.news.now.border r.0 c.requires.hold c.loop-n.invariant.same r.1

pub loop-n-preserved : goal.loop-n-preserved
loop-n-preserved g c =
    let i = c.loop-n.invariant in
    let p = i.read in
    let q = c.refresh_site.ensures.read in
    let b = (g.D.Board.end c.loop-n.board).lists in
    let d = (g.D.Board.end c.refresh_site.new.board).lists in
    let v = c.args.cache.now in
    let mid = c.loop-n.cache in
    let new = c.refresh_site.new.cache in
    let s = site_of c.args.centre in
    let e = c.args.news.now.border.edge in
    let news = c.args.news.now.words in
    let places : ℕ → Option ℕ = place_in v.map s e in
    let n = c.loop-n.n in
    let lt : n < 41 = omega (arith, c.loop-n-test.true) in
    let one : TakesAt e (NewsIn news (λ k. places n ≡ Some k)) mid new q.0 = subst (λ m. TakesAt e (NewsIn news (λ k. place_in m s e n ≡ Some k)) mid new q.0) p.2.map q.2 in
    record {
      read = (
        p.0 ++ q.0,
        adds_then (g.D.Board.end c.args.board.now).lists b d e p.0 q.0 c.requires.hold.held p.1 q.1,
        takes_news e news (Covers places n) (λ k. places n ≡ Some k) (Covers places (n + 1)) v mid new p.0 q.0 p.2 one
            (λ k cov at. let same = places_apart v.map s e cov.0 n k (omega (arith, cov.1, lt)) lt cov.2 at in omega (arith, same, cov.1)) (or_site places n) (covers_last places n),
      );
      same = same_end (g.D.Board.end c.args.board.now) (g.D.Board.end c.loop-n.board) (g.D.Board.end c.refresh_site.new.board) i.same c.refresh_site.ensures.same;
      moved = search rules;
    }

pub returns-clause-read : goal.returns-clause-read
returns-clause-read g c =
    let p = c.loop-n.invariant.read in
    let v = c.args.cache.now in
    let all : c.loop-n.n ≡ 41 = omega (arith, c.loop-n-test.false, c.loop-n.auto.n-end) in
    (p.0, p.1, subst (λ n. TakesAt c.args.news.now.border.edge (NewsIn c.args.news.now.words (Covers (place_in v.map (site_of c.args.centre) c.args.news.now.border.edge) n)) v c.loop-n.cache p.0) all p.2)
