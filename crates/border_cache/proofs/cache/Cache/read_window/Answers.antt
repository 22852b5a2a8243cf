use Rattle.std.proofs.Common.{rules, sym, ap, ◌∙◌, subst}
use Rattle.window_sites.specs.Inner.{inner_window}
use Rattle.tile_map.specs.Plane.{IsMap, site}
use Rattle.tile_map.specs.Laws.{IsPlane}
use Rattle.border_cache.specs.Cells.{cell_atoms}
use Rattle.border_cache.specs.Copies.{cache_of, window_cells, IsCorner}
use Rattle.border_cache.specs.Windows.{IsView}
use Rattle.border_cache.proofs.Stored.{centre_holds}
use Rattle.border_cache.proofs.ReachedWindows.{own_centre}
use Rattle.border_cache.proofs.Given.{view_whole}
use Rattle.border_cache.proofs.cache.Cache.read_window.Goals as goal

pub view_of-requires-clause-centre : goal.view_of-requires-clause-centre
view_of-requires-clause-centre c = record {
  map = c.requires.map;
  plane = record { valid = search rules; x = search rules; y = search rules };
  holds = centre_holds c.args.self.now.map (subst IsPlane c.requires.map c.laws.ensures.plane) c.args.self.now.tile (site c.args.x c.args.y) c.requires.centre;
}

pub returns-in-Some : goal.returns-in-Some
returns-in-Some c =
    let f = c.self.inside in
    let s = site c.args.x c.args.y in
    let low = c.in-Some.low in
    let v = cache_of f.plane f.tile f.cells in
    let corner = subst (λ w. IsCorner w s low) (sym c.self.view_is) c.in-Some.ensures.low in
    let same = ap (inner_window (cell_atoms f.cells) low) (sym c.self.invariant.width_is) ∙ sym c.read_window.ensures in
    subst (λ w. IsView w.map s (window_cells w s) c.read_window.new.window) c.self.view_is (subst (IsView f.plane s (window_cells v s)) same (view_whole v s low corner))

pub view_reached-requires-clause-centre : goal.view_reached-requires-clause-centre
view_reached-requires-clause-centre c = own_centre c.args.self.now (record { x = c.args.x; y = c.args.y }) (subst IsMap c.requires.map (search rules)) (subst IsPlane c.requires.map c.laws.ensures.plane) c.requires.centre
