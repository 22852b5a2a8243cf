use Rattle.std.proofs.Common.{◌≡◌, true, sym, subst, arith, ltb-true}
use Rattle.tile_map.specs.Plane.{site, is_held}
use Rattle.tile_map.proofs.Near.{held_live}
use Rattle.border_cache.specs.Windows.{IsWhole}
use Rattle.border_cache.proofs.Corners.{inside_whole}
use Rattle.border_cache.proofs.cache.Cache.has_own_window.Goals as goal

pub returns-then-column-self : goal.returns-then-column-self
returns-then-column-self c high =
    let f = c.self.inside in
    let i = c.self.invariant in
    let s = site c.args.x c.args.y in
    let held : is_held f.plane f.tile s ≡ true = subst (λ w. is_held w.map w.tile s ≡ true) (sym c.self.view_is) c.requires in
    let low = ltb-true _ _ high in
    subst (λ w. IsWhole w.map s) c.self.view_is (inside_whole f.plane i.valid f.tile s (held_live f.plane f.tile s held) (record {
      west = omega (arith, i.left_is, c.if-column-lt8.false);
      east = omega (arith, i.left_is, i.width_is, c.if-column-lt8.false, c.if-column-self.true);
      north = omega (arith, i.top_is, c.if-row-lt8.false);
      south = omega (arith, i.top_is, i.height_is, c.if-row-lt8.false, low);
    }))
