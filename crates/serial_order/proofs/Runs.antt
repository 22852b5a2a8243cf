-- The sites of a row, tile by tile.
use Rattle.std.proofs.Common.{ℕ, ◌≡◌, ◌<◌, ◌≤◌, ◌+◌, ◌*◌, ◌/◌, true, false, arith, ◌∙◌}
use Rattle.std.proofs.lemmas.Nat.{div-mul-add}
use Rattle.list_laws.proofs.Tests.{both, together}
use Rattle.tile_map.specs.Plane.{Site, MapValue, IsMap, site, in_plane, is_on, is_live, owner_of}
use Rattle.tile_map.proofs.Spans.{plane_test, times_more}
use Rattle.cell_grid.specs.Grid.{GridValue}
use Rattle.plane_grid.specs.PlaneGrids.{IsPlaneGrid}

-- a site of a tile is live where the tile is on
pub on_live : (m : MapValue) (g : GridValue) → IsPlaneGrid m g → (x y : ℕ) → x < g.width → y < g.height → is_on m (owner_of m (site x y)) ≡ true → is_live m (site x y) ≡ true
on_live m g p x y column row on =
    let wide = p.1.wide in
    let high = p.1.high in
    together _ _ (plane_test m x y (omega (arith, column, wide)) (omega (arith, row, high))) on

pub off_dead : (m : MapValue) (s : Site) → is_on m (owner_of m s) ≡ false → is_live m s ≡ true → ⊥
off_dead m s off live = cc ((both (in_plane m s) (is_on m (owner_of m s)) live).1, off)

-- how many tiles stand in a row
pub tiles_in_row : (m : MapValue) → IsMap m → (width size : ℕ) → width ≡ m.tx * m.w → size ≡ m.w → width / size ≡ m.tx
tiles_in_row m valid width size is size_is =
    let sum : m.tx * m.w ≡ m.tx * m.w + 0 = omega arith in
    (λ i. (is ∙ sum) i / size_is i) ∙ div-mul-add m.tx m.w 0 (omega (arith, valid.sizes.w_low))

pub row_end : (m : MapValue) → IsMap m → (part : ℕ) → part < m.tx → part * m.w + m.w ≤ m.tx * m.w
row_end m valid part lt = let most = times_more (part + 1) m.tx m.w (omega (arith, lt)) in omega (arith, most)
