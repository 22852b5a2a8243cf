use Rattle.std.proofs.Common.{◌≡◌, true, ap, sym, ◌∙◌, subst}
use Rattle.std.specs.Prelude.{slice_set}
use Rattle.tile_map.specs.Plane.{site, is_held}
use Rattle.border_cache.specs.Copies.{cache_of, place_held, Puts}
use Rattle.border_cache.proofs.Stored.{puts}
use Rattle.border_cache.proofs.cache.Cache.put.Goals as goal

pub returns : goal.returns
returns c =
    let f = c.self.inside in
    let s = site c.args.x c.args.y in
    let v = cache_of f.plane f.tile f.cells in
    let held : is_held f.plane f.tile s ≡ true = subst (λ w. is_held w.map w.tile s ≡ true) (sym c.self.view_is) c.requires in
    let place : place_held f.plane f.tile s ≡ c.index-index.result = ap (λ w. place_held w.map w.tile s) c.self.view_is ∙ sym c.index-index.ensures.value in
    let p = puts v s c.args.cell held c.self.invariant.count in
    let here = subst (λ k. Puts s c.args.cell v (cache_of f.plane f.tile (slice_set f.cells k c.args.cell))) place p in
    subst (λ w. Puts s c.args.cell w (cache_of f.plane f.tile c.set.new.self)) c.self.view_is
    (subst (λ cells. Puts s c.args.cell v (cache_of f.plane f.tile cells)) (sym c.set.ensures) here)
