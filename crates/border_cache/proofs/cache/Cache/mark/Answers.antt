use Rattle.std.proofs.Common.{rules, ℕ, sym, subst}
use Rattle.window_sites.specs.Window.{atom_at}
use Rattle.tile_map.specs.Plane.{IsMap, site}
use Rattle.tile_map.specs.Laws.{IsPlane}
use Rattle.border_cache.specs.Cells.{CellValue, cell_value}
use Rattle.border_cache.specs.Rows.{GivesWhole}
use Rattle.border_cache.specs.Copies.{cache_of, HoldsWindow, Stores, IsCorner}
use Rattle.border_cache.proofs.Stored.{centre_holds}
use Rattle.border_cache.proofs.ReachedWindows.{own_centre}
use Rattle.border_cache.proofs.Given.{gives_stores}
use Rattle.border_cache.proofs.cache.Cache.mark.Goals as goal

pub mark_sites-requires : goal.mark_sites-requires
mark_sites-requires c = record {
  centre = record {
    map = c.requires.map;
    plane = record { valid = search rules; x = search rules; y = search rules };
    holds = centre_holds c.args.self.now.map (subst IsPlane c.requires.map c.laws.ensures.plane) c.args.self.now.tile (site c.args.x c.args.y) c.requires.centre;
  };
}

pub mark_reached-requires-clause-centre : goal.mark_reached-requires-clause-centre
mark_reached-requires-clause-centre c = own_centre c.args.self.now (record { x = c.args.x; y = c.args.y }) (subst IsMap c.requires.map (search rules)) (subst IsPlane c.requires.map c.laws.ensures.plane) c.requires.centre

pub returns-in-Some : goal.returns-in-Some
returns-in-Some c =
    let f = c.self.inside in
    let s = site c.args.x c.args.y in
    let low = c.in-Some.low in
    let v = cache_of f.plane f.tile f.cells in
    let new = c.mark.new.self in
    let cells : ℕ → CellValue = λ n. cell_value c.args.stamp (atom_at c.args.window.now n) in
    let holds = centre_holds c.args.self.now.map (subst IsPlane c.requires.map c.laws.ensures.plane) c.args.self.now.tile s c.requires.centre in
    let corner = subst (λ w. IsCorner w s low) (sym c.self.view_is) c.in-Some.ensures.low in
    let given = subst (λ n. GivesWhole low n cells f.cells new) c.self.invariant.width_is c.mark.ensures in
    subst (λ w. Stores s cells w (cache_of f.plane f.tile new)) c.self.view_is (gives_stores v s low corner cells new (subst (λ w. HoldsWindow w.map w.tile s) (sym c.self.view_is) holds) given)
