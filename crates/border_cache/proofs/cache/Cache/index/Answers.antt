use Rattle.std.proofs.Common.{◌≡◌, ◌<◌, ◌+◌, ◌-◌, ◌*◌, true, length, ap, sym, ◌∙◌, subst}
use Rattle.tile_map.specs.Plane.{site, is_held}
use Rattle.border_cache.specs.Copies.{place_held}
use Rattle.border_cache.proofs.Stored.{place_inside}
use Rattle.border_cache.proofs.cache.Cache.index.Goals as goal

pub returns-clause-inside : goal.returns-clause-inside
returns-clause-inside c =
    let f = c.self.inside in
    let v = c.self.invariant in
    let s = site c.args.x c.args.y in
    let held : is_held f.plane f.tile s ≡ true = subst (λ w. is_held w.map w.tile s ≡ true) (sym c.self.view_is) c.requires in
    let place : (s.y - f.top) * f.width + (s.x - f.left) ≡ place_held f.plane f.tile s = λ i. (s.y - v.top_is i) * v.width_is i + (s.x - v.left_is i) in
    let long = sym v.count ∙ ap (λ w. length w.cells) c.self.view_is in
    subst (λ n. n < length c.args.self.now.cells) (sym place) (subst (λ n. place_held f.plane f.tile s < n) long (place_inside f.plane f.tile s held))
