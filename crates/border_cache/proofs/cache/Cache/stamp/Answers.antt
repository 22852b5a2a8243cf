use Rattle.std.proofs.Common.{rules, sym, subst}
use Rattle.tile_map.specs.Plane.{site}
use Rattle.tile_map.specs.Laws.{IsPlane}
use Rattle.border_cache.specs.Rows.{GivesWhole, stamped_at}
use Rattle.border_cache.specs.Copies.{cache_of, HoldsWindow, Stamped, IsCorner}
use Rattle.border_cache.proofs.Stored.{centre_holds}
use Rattle.border_cache.proofs.Given.{gives_stamped}
use Rattle.border_cache.proofs.cache.Cache.stamp.Goals as goal

pub stamp_sites-requires : goal.stamp_sites-requires
stamp_sites-requires c = record {
  centre = record {
    map = c.requires.map;
    plane = record { valid = search rules; x = search rules; y = search rules };
    holds = centre_holds c.args.self.now.map (subst IsPlane c.requires.map c.laws.ensures.plane) c.args.self.now.tile (site c.args.x c.args.y) c.requires.centre;
  };
}

pub stamp_reached-requires-clause-centre : goal.stamp_reached-requires-clause-centre
stamp_reached-requires-clause-centre c = record {
  map = c.requires.map;
  plane = record { valid = search rules; x = search rules; y = search rules };
  holds = centre_holds c.args.self.now.map (subst IsPlane c.requires.map c.laws.ensures.plane) c.args.self.now.tile (site c.args.x c.args.y) c.requires.centre;
}

pub returns-in-Some : goal.returns-in-Some
returns-in-Some c =
    let f = c.self.inside in
    let s = site c.args.x c.args.y in
    let low = c.in-Some.low in
    let stamp = c.args.stamp in
    let v = cache_of f.plane f.tile f.cells in
    let new = c.stamp.new.self in
    let holds = centre_holds c.args.self.now.map (subst IsPlane c.requires.map c.laws.ensures.plane) c.args.self.now.tile s c.requires.centre in
    let corner = subst (λ w. IsCorner w s low) (sym c.self.view_is) c.in-Some.ensures.low in
    let given = subst (λ n. GivesWhole low n (stamped_at f.cells low n stamp) f.cells new) c.self.invariant.width_is c.stamp.ensures in
    subst (λ w. Stamped s stamp w (cache_of f.plane f.tile new)) c.self.view_is (gives_stamped v s low corner stamp new (subst (λ w. HoldsWindow w.map w.tile s) (sym c.self.view_is) holds) given)
