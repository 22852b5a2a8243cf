use Rattle.std.proofs.Common.{◌≡◌, [], Some, arith, ap, sym, ◌∙◌, subst}
use Rattle.tile_map.specs.Plane.{site}
use Rattle.tile_map.specs.Edges.{window_site}
use Rattle.border_cache.specs.Borders.{site_of}
use Rattle.border_cache.specs.Windows.{place_in}
use Rattle.border_cache.specs.Shared.{shared_cell}
use Rattle.border_cache.specs.Published.{IsCellPut}
use Rattle.border_cache.proofs.Runs.{adds_none}
use Rattle.border_cache.proofs.Written.{puts_none, puts_one, puts_same}
use Rattle.list_laws.proofs.Options.{some_once}
use Rattle.border_cache.proofs.SharedRuns.{place_inside, site_cell}
use Rattle.border_cache.proofs.publish.put_site.Goals as goal

pub put_cell-requires-clause-place : goal.put_cell-requires-clause-place
put_cell-requires-clause-place g c =
    let s = site_of c.args.centre in
    let lt = place_inside c.args.map.now s c.args.border.edge c.args.n c.in-Some.place (sym c.place_in.ensures ∙ c.in-Some.is) in
    omega (arith, lt, c.requires.border.sites)

pub at-requires : goal.at-requires
at-requires g c = c.requires.centre.holds c.args.n (site c.in-Some-site_at.u c.in-Some-site_at.v) (omega (arith, c.requires.n)) (ap (λ m. window_site m (site_of c.args.centre) c.args.n) (sym c.requires.centre.map) ∙ c.in-Some-site_at.ensures)

pub returns-in-Some-site_at-clause-put : goal.returns-in-Some-site_at-clause-put
returns-in-Some-site_at-clause-put g c =
    let v = c.args.cache.now in
    let s = site_of c.args.centre in
    let e = c.args.border.edge in
    let n = c.args.n in
    let k = c.in-Some.place in
    let q = c.put_cell.ensures.put in
    let at : place_in v.map s e n ≡ Some k = ap (λ m. place_in m s e n) (sym c.requires.centre.map) ∙ (sym c.place_in.ensures ∙ c.in-Some.is) in
    let there = ap (λ m. window_site m s n) (sym c.requires.centre.map) ∙ c.in-Some-site_at.ensures in
    let own = subst (λ y. IsCellPut y k q.0) (c.at.ensures ∙ site_cell v s e n k (site c.in-Some-site_at.u c.in-Some-site_at.v) at there) q.2 in
    (q.0, q.1, puts_same (λ j. j ≡ k) (λ j. place_in v.map s e n ≡ Some j) (shared_cell v e) q.0 (λ j is. at ∙ ap Some (sym is)) (λ j is. some_once (place_in v.map s e n) j k is at) (puts_one (shared_cell v e) k q.0 own))

pub returns-in_default-clause-put : goal.returns-in_default-clause-put
returns-in_default-clause-put g c =
    let v = c.args.cache.now in
    let s = site_of c.args.centre in
    let e = c.args.border.edge in
    let n = c.args.n in
    ([], adds_none (g.D.Board.end c.args.board.now).lists e, puts_none (λ k. place_in v.map s e n ≡ Some k) (shared_cell v e) (λ k at. c.in_default.not-Some k (c.place_in.ensures ∙ (ap (λ m. place_in m s e n) c.requires.centre.map ∙ at))))
