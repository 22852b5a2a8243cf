use Rattle.std.proofs.Common.{rules, ◌≡◌, ℕ, [], length, ap, arith}
use Rattle.tile_map.proofs.PlaneLaws.{plane}
use Rattle.tile_map.proofs.Numbers.{size_low}
use Rattle.border_cache.specs.Borders.{site_of}
use Rattle.border_cache.specs.News.{NewsIn, bit_in}
use Rattle.border_cache.specs.Shared.{IsInRow, IsInRun}
use Rattle.border_cache.proofs.RowPlaces.{run_fits}
use Rattle.border_cache.proofs.Runs.{adds_none}
use Rattle.border_cache.proofs.Taken.{takes_none, takes_same}
use Rattle.border_cache.proofs.SharedRuns.{run_shared, in_row, in_run, no_row}
use Rattle.border_cache.proofs.refresh.refresh_row.Goals as goal

pub refresh_run-requires-clause-run : goal.refresh_run-requires-clause-run
refresh_run-requires-clause-run g c =
    let v = c.args.cache.now in
    run_shared v (plane v.map c.requires.centre.plane.valid) c.args.area (site_of c.args.centre) c.args.news.now.border.edge c.requires.area.shared.0 c.requires.centre.holds c.args.j c.in-Some.run' c.in-Some.ensures

pub returns-then-not-are_clear_in-clause-read : goal.returns-then-not-are_clear_in-clause-read
returns-then-not-are_clear_in-clause-read g c =
    let p = c.refresh_run.ensures.read in
    let a = c.args.area in
    let s = site_of c.args.centre in
    let j = c.args.j in
    let r = c.in-Some.run' in
    let news = c.args.news.now.words in (
      p.0,
      p.1,
      takes_same c.args.news.now.border.edge (NewsIn news (IsInRun r r.east)) (NewsIn news (IsInRow a s j)) c.args.cache.now c.refresh_run.new.cache p.0 (λ k h. (in_row a s j r c.in-Some.ensures k h.0, h.1)) (λ k h. (in_run a s j r c.in-Some.ensures k h.0, h.1)) p.2,
    )

pub returns-else-not-are_clear_in-clause-read : goal.returns-else-not-are_clear_in-clause-read
returns-else-not-are_clear_in-clause-read g c =
    let a = c.args.area in
    let s = site_of c.args.centre in
    let j = c.args.j in
    let r = c.in-Some.run' in
    let news = c.args.news.now.words in
    let clear = c.are_clear_in.ensures (search rules) in (
      [],
      adds_none (g.D.Board.end c.args.board.now).lists c.args.news.now.border.edge,
      takes_none c.args.news.now.border.edge (NewsIn news (IsInRow a s j)) c.args.cache.now (λ k h. let q = in_run a s j r c.in-Some.ensures k h.0 in no_bit k (clear k q.0 q.1) h.1),
    )
  where
    no_bit : (k : ℕ) → bit_in c.args.news.now.words k ≡ 0 → bit_in c.args.news.now.words k ≡ 1 → ⊥
    no_bit k zero one = omega (arith, zero, one)

pub returns-in_default-clause-read : goal.returns-in_default-clause-read
returns-in_default-clause-read g c =
    let a = c.args.area in
    let s = site_of c.args.centre in
    ([], adds_none (g.D.Board.end c.args.board.now).lists c.args.news.now.border.edge, takes_none c.args.news.now.border.edge (NewsIn c.args.news.now.words (IsInRow a s c.args.j)) c.args.cache.now (λ k h. no_row a s c.args.j k c.in_default.ensures h.0))

-- the places of the run are shared sites
pub overflow_add-run : goal.overflow_add-run
overflow_add-run g c =
    let fits = run_fits c.args.area (site_of c.args.centre) c.args.j c.in-Some.run' c.in-Some.ensures in
    let all = ap length c.requires.area.shared.0 in
    omega (arith, fits, all, c.requires.area.border.sites, c.requires.hold.few)

pub are_clear_in-requires-clause-few : goal.are_clear_in-requires-clause-few
are_clear_in-requires-clause-few g c =
    let fits = run_fits c.args.area (site_of c.args.centre) c.args.j c.in-Some.run' c.in-Some.ensures in
    let all = ap length c.requires.area.shared.0 in
    omega (arith, fits, all, c.requires.area.border.sites, c.requires.hold.few)

pub run_of-requires-clause-x : goal.run_of-requires-clause-x
run_of-requires-clause-x g c =
    let m = c.args.cache.now.map in
    let s = c.requires.centre.plane.valid.sizes in
    let wide = size_low m.tx m.w s.tx_high s.w_high in
    omega (arith, c.requires.centre.plane.x, wide)

pub run_of-requires-clause-y : goal.run_of-requires-clause-y
run_of-requires-clause-y g c =
    let m = c.args.cache.now.map in
    let s = c.requires.centre.plane.valid.sizes in
    let high = size_low m.ty m.h s.ty_high s.h_high in
    omega (arith, c.requires.centre.plane.y, high)
