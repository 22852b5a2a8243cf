-- The atoms of a world on the grid of its plane, set one after another.
use Rattle.std.proofs.Common.{ℕ, ◌≡◌, ◌+◌, ◌*◌, ◌<◌, true, List, ◌∷◌, length, get_or, drop, fold, sym, ap, ◌∙◌, arith, ltb-true}
use Rattle.std.specs.Prelude.{nat_lt}
use Rattle.std.proofs.lemmas.List.{drop_more}
use Rattle.list_laws.proofs.Tests.{both}
use Rattle.plane_grid.specs.PlaneGrids.{IsGridOf}
use Rattle.cell_grid.specs.Grid.{GridValue, IsLive}
use Rattle.tile_map.specs.Plane.{MapValue, site, in_plane, is_on, is_live, owner_of}
use Rattle.world_runs.specs.Start.{with_placed}
use Rattle.world_text.specs.declared.world.Placed.{Placed}

pub fits_placed : (m : MapValue) (g : GridValue) (p : Placed) → IsGridOf m g → IsGridOf m (with_placed g p)
fits_placed m g p h = record { wide = h.wide; high = h.high; live = h.live }

-- a live site of the plane is one of such a grid
pub live_in : (m : MapValue) (g : GridValue) (x y : ℕ) → IsGridOf m g → is_live m (site x y) ≡ true → IsLive g x y
live_in m g x y h live =
    let inside = both (nat_lt x (m.tx * m.w)) (nat_lt y (m.ty * m.h)) (both (in_plane m (site x y)) (is_on m (owner_of m (site x y))) live).0 in
    let a : x < g.width = let lt = ltb-true _ _ inside.0 in omega (arith, lt, h.wide) in
    let b : y < g.height = let lt = ltb-true _ _ inside.1 in omega (arith, lt, h.high) in
    record { column = a; row = b; marked = h.live x y a b ∙ live }

-- one atom more
pub placed_more : (g new : GridValue) (ps : List Placed) (i : ℕ) (p : Placed) (whole : GridValue) → i < length ps → p ≡ get_or ps i p → new ≡ with_placed g p → fold with_placed g (drop i ps) ≡ whole → fold with_placed new (drop (i + 1) ps) ≡ whole
placed_more g new ps i p whole lt item is rest =
    ap (λ (h : GridValue). fold with_placed h (drop (i + 1) ps)) is
    ∙ sym (ap (fold with_placed g) (drop_more ps i p lt ∙ ap (λ (q : Placed). q ∷ drop (i + 1) ps) (sym item))) ∙ rest
