use Rattle.std.proofs.Common.{rules, arith, ◌≡◌, ◌+◌, ◌⊎◌, ℕ, Option, Some, [], ◌++◌, subst}
use Rattle.border_cache.specs.Borders.{site_of}
use Rattle.border_cache.specs.News.{Covers}
use Rattle.border_cache.specs.Published.{PutsAt}
use Rattle.border_cache.specs.Shared.{shared_cell}
use Rattle.border_cache.specs.Windows.{place_in}
use Rattle.border_cache.proofs.Open.{open_adds}
use Rattle.border_cache.proofs.Runs.{adds_none, adds_then}
use Rattle.border_cache.proofs.Written.{puts_none, puts_both, puts_same}
use Rattle.border_cache.proofs.SharedRuns.{no_site, or_site}
use Rattle.border_cache.proofs.Refreshes.{covers_last}
use Rattle.edge_lock.proofs.BoardLaws.{same_end, same_end_here}
use Rattle.border_cache.proofs.publish.put_sites.Goals as goal

pub loop-n-init : goal.loop-n-init
loop-n-init g c =
    let v = c.args.cache.now in
    let p = place_in v.map (site_of c.args.centre) c.args.border.edge in
    record {
      put = ([], adds_none (g.D.Board.end c.args.board.now).lists c.args.border.edge, puts_none (Covers p 0) (shared_cell v c.args.border.edge) (no_site p));
      same = same_end_here (g.D.Board.end c.args.board.now);
      moved = search rules;
    }

pub put_site-requires-clause-hold : goal.put_site-requires-clause-hold
put_site-requires-clause-hold g c =
    let r = c.loop-n.invariant.put in
    open_adds (g.D.Board.end c.args.board.now) (g.D.Board.end c.loop-n.board) c.args.border r.0 c.requires.hold c.loop-n.invariant.same r.1

pub loop-n-preserved : goal.loop-n-preserved
loop-n-preserved g c =
    let i = c.loop-n.invariant in
    let p = i.put in
    let q = c.put_site.ensures.put in
    let b = (g.D.Board.end c.loop-n.board).lists in
    let d = (g.D.Board.end c.put_site.new.board).lists in
    let v = c.args.cache.now in
    let places : ℕ → Option ℕ = place_in v.map (site_of c.args.centre) c.args.border.edge in
    let n = c.loop-n.n in
    let cell = shared_cell v c.args.border.edge in
    record {
      put = (
        p.0 ++ q.0,
        adds_then (g.D.Board.end c.args.board.now).lists b d c.args.border.edge p.0 q.0 c.requires.hold.held p.1 q.1,
        puts_same (λ k. Covers places n k ⊎ (places n ≡ Some k)) (Covers places (n + 1)) cell (p.0 ++ q.0) (or_site places n) (covers_last places n) (puts_both (Covers places n) (λ k. places n ≡ Some k) cell p.0 q.0 p.2 q.2),
      );
      same = same_end (g.D.Board.end c.args.board.now) (g.D.Board.end c.loop-n.board) (g.D.Board.end c.put_site.new.board) i.same c.put_site.ensures.same;
      moved = search rules;
    }

pub returns-clause-put : goal.returns-clause-put
returns-clause-put g c =
    let p = c.loop-n.invariant.put in
    let v = c.args.cache.now in
    let all : c.loop-n.n ≡ 41 = omega (arith, c.loop-n-test.false, c.loop-n.auto.n-end) in
    (p.0, p.1, subst (λ n. PutsAt (Covers (place_in v.map (site_of c.args.centre) c.args.border.edge) n) (shared_cell v c.args.border.edge) p.0) all p.2)
