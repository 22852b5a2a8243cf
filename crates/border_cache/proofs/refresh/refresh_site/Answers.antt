use Rattle.std.proofs.Common.{◌≡◌, [], Some, arith, ap, sym, ◌∙◌}
use Rattle.tile_map.specs.Plane.{site}
use Rattle.tile_map.specs.Edges.{window_site}
use Rattle.border_cache.specs.Borders.{site_of}
use Rattle.border_cache.specs.News.{NewsIn}
use Rattle.border_cache.specs.Windows.{edge_place_some, place_in}
use Rattle.border_cache.proofs.Runs.{adds_none}
use Rattle.border_cache.proofs.Taken.{takes_none, takes_same}
use Rattle.list_laws.proofs.Options.{some_once}
use Rattle.border_cache.proofs.SharedRuns.{place_inside}
use Rattle.border_cache.proofs.refresh.refresh_site.Goals as goal

pub refresh_place-requires-clause-place : goal.refresh_place-requires-clause-place
refresh_place-requires-clause-place g c =
    let s = site_of c.args.centre in
    let lt = place_inside c.args.map.now s c.args.news.now.border.edge c.args.n c.in-Some.place (sym c.place_in.ensures ∙ c.in-Some.is) in
    omega (arith, lt, c.requires.border.sites)

pub refresh_place-requires-clause-owned : goal.refresh_place-requires-clause-owned
refresh_place-requires-clause-owned g c = c.requires.centre.holds c.args.n (site c.in-Some-site_at.u c.in-Some-site_at.v) (omega (arith, c.requires.n)) (ap (λ m. window_site m (site_of c.args.centre) c.args.n) (sym c.requires.centre.map) ∙ c.in-Some-site_at.ensures)

pub refresh_place-requires-clause-shared : goal.refresh_place-requires-clause-shared
refresh_place-requires-clause-shared g c =
    let v = c.args.cache.now in
    let s = site_of c.args.centre in
    let e = c.args.news.now.border.edge in
    let n = c.args.n in
    sym (ap (edge_place_some v.map e) (ap (λ m. window_site m s n) (sym c.requires.centre.map) ∙ c.in-Some-site_at.ensures)) ∙ (ap (λ m. place_in m s e n) (sym c.requires.centre.map) ∙ (sym c.place_in.ensures ∙ c.in-Some.is))

pub returns-in-Some-site_at-clause-read : goal.returns-in-Some-site_at-clause-read
returns-in-Some-site_at-clause-read g c =
    let v = c.args.cache.now in
    let s = site_of c.args.centre in
    let e = c.args.news.now.border.edge in
    let n = c.args.n in
    let k = c.in-Some.place in
    let news = c.args.news.now.words in
    let q = c.refresh_place.ensures.read in
    let at : place_in v.map s e n ≡ Some k = ap (λ m. place_in m s e n) (sym c.requires.centre.map) ∙ (sym c.place_in.ensures ∙ c.in-Some.is) in
    (q.0, q.1, takes_same e (NewsIn news (λ j. j ≡ k)) (NewsIn news (λ j. place_in v.map s e n ≡ Some j)) v c.refresh_place.new.cache q.0 (λ j h. (at ∙ ap Some (sym h.0), h.1)) (λ j h. (some_once (place_in v.map s e n) j k h.0 at, h.1)) q.2)

pub returns-in_default-clause-read : goal.returns-in_default-clause-read
returns-in_default-clause-read g c =
    let v = c.args.cache.now in
    let s = site_of c.args.centre in
    let e = c.args.news.now.border.edge in
    let n = c.args.n in
    ([], adds_none (g.D.Board.end c.args.board.now).lists e, takes_none e (NewsIn c.args.news.now.words (λ k. place_in v.map s e n ≡ Some k)) v (λ k h. c.in_default.not-Some k (c.place_in.ensures ∙ (ap (λ m. place_in m s e n) c.requires.centre.map ∙ h.0))))
