use Rattle.std.proofs.Common.{rules, arith, ◌≡◌, ◌+◌, ◌-◌, ℕ, [], ◌++◌, ap, subst, ◌∙◌}
use Rattle.tile_map.specs.Plane.{site, is_held}
use Rattle.tile_map.proofs.PlaneLaws.{plane}
use Rattle.border_cache.specs.News.{NewsIn}
use Rattle.border_cache.specs.Shared.{IsInRun, TakesAt}
use Rattle.border_cache.specs.Windows.{edge_place}
use Rattle.border_cache.proofs.Open.{open_adds}
use Rattle.border_cache.proofs.Runs.{adds_none, adds_then}
use Rattle.border_cache.proofs.Covered.{shared_number}
use Rattle.border_cache.proofs.Taken.{takes_none, takes_news}
use Rattle.border_cache.proofs.SharedRuns.{run_begins, run_or, or_run, run_apart, run_place}
use Rattle.edge_lock.proofs.BoardLaws.{same_end, same_end_here}
use Rattle.border_cache.proofs.refresh.refresh_run.Goals as goal

pub loop-x-init : goal.loop-x-init
loop-x-init g c = record {
  read = ([], adds_none (g.D.Board.end c.args.board.now).lists c.args.news.now.border.edge, takes_none c.args.news.now.border.edge (NewsIn c.args.news.now.words (IsInRun c.args.run c.args.run.west)) c.args.cache.now (λ k h. run_begins c.args.run k h.0));
  same = same_end_here (g.D.Board.end c.args.board.now);
  moved = search rules;
}

pub overflow_add-place : goal.overflow_add-place
overflow_add-place g c =
    let r = c.args.run in
    let lt = run_place c.args.cache.now c.args.news.now.border.edge r c.loop-x.x c.requires.run c.loop-x.auto.x c.loop-x-test.true in
    omega (arith, lt, c.requires.border.sites, c.requires.hold.few)

pub refresh_place-requires-clause-place : goal.refresh_place-requires-clause-place
refresh_place-requires-clause-place g c =
    let r = c.args.run in
    let lt = run_place c.args.cache.now c.args.news.now.border.edge r c.loop-x.x c.requires.run c.loop-x.auto.x c.loop-x-test.true in
    omega (arith, lt, c.requires.border.sites)

pub refresh_place-requires-clause-owned : goal.refresh_place-requires-clause-owned
refresh_place-requires-clause-owned g c =
    let t = c.loop-x.invariant.read.2 in
    (λ i. is_held (t.map i) (t.tile i) (site c.loop-x.x c.args.run.row)) ∙ c.requires.run.held c.loop-x.x c.loop-x.auto.x c.loop-x-test.true

pub refresh_place-requires-clause-shared : goal.refresh_place-requires-clause-shared
refresh_place-requires-clause-shared g c =
    let v = c.args.cache.now in
    let e = c.args.news.now.border.edge in
    let r = c.args.run in
    let x = c.loop-x.x in
    let s = site x r.row in
    ap (λ m. edge_place m e s) c.loop-x.invariant.read.2.map ∙ shared_number v.map (plane v.map c.requires.valid) e (r.start + (x - r.west)) s c.requires.border.edge (c.requires.run.shared x c.loop-x.auto.x c.loop-x-test.true)

pub refresh_place-requires-clause-hold : goal.refresh_place-requires-clause-hold
refresh_place-requires-clause-hold g c =
    let r = c.loop-x.invariant.read in
    open_adds (g.D.Board.end c.args.board.now) (g.D.Board.end c.loop-x.board) c.args.news.now.border r.0 c.requires.hold c.loop-x.invariant.same r.1

pub loop-x-preserved : goal.loop-x-preserved
loop-x-preserved g c =
    let i = c.loop-x.invariant in
    let p = i.read in
    let q = c.refresh_place.ensures.read in
    let b = (g.D.Board.end c.loop-x.board).lists in
    let d = (g.D.Board.end c.refresh_place.new.board).lists in
    let e = c.args.news.now.border.edge in
    let v = c.args.cache.now in
    let mid = c.loop-x.cache in
    let r = c.args.run in
    let x = c.loop-x.x in
    let k : ℕ = r.start + (x - r.west) in
    let low = c.loop-x.auto.x in
    let news = c.args.news.now.words in
    record {
      read = (
        p.0 ++ q.0,
        adds_then (g.D.Board.end c.args.board.now).lists b d e p.0 q.0 c.requires.hold.held p.1 q.1,
        takes_news e news (IsInRun r x) (λ j. j ≡ k) (IsInRun r (x + 1)) v mid c.refresh_place.new.cache p.0 q.0 p.2 q.2 (run_apart r x low) (or_run r x low) (run_or r x low),
      );
      same = same_end (g.D.Board.end c.args.board.now) (g.D.Board.end c.loop-x.board) (g.D.Board.end c.refresh_place.new.board) i.same c.refresh_place.ensures.same;
      moved = search rules;
    }

pub returns-clause-read : goal.returns-clause-read
returns-clause-read g c =
    let p = c.loop-x.invariant.read in
    let some = c.requires.run.some in
    let all : c.loop-x.x ≡ c.args.run.east = omega (arith, c.loop-x-test.false, c.loop-x.auto.x-end, some) in
    (p.0, p.1, subst (λ x. TakesAt c.args.news.now.border.edge (NewsIn c.args.news.now.words (IsInRun c.args.run x)) c.args.cache.now c.loop-x.cache p.0) all p.2)
