-- A grid of a plane with an atom at a live site.
use Rattle.std.proofs.Common.{ℕ, ◌≡◌, true, [], arith}
use Rattle.bit_field.specs.Atom.{AtomValue}
use Rattle.tile_map.specs.Plane.{MapValue, site, is_live}
use Rattle.tile_map.specs.Laws.{IsPlane}
use Rattle.cell_grid.specs.Grid.{GridValue, with_site}
use Rattle.plane_grid.specs.PlaneGrids.{IsPlaneGrid}
use Rattle.serial_order.proofs.Grids.{in_columns}
use Rattle.serial_order.proofs.Filling.{sets}

pub with_atom : (m : MapValue) → IsPlane m → (g : GridValue) → IsPlaneGrid m g → (x y : ℕ) → is_live m (site x y) ≡ true → (a : AtomValue) → IsPlaneGrid m (with_site g x y a)
with_atom m plane g p x y live a =
    let inside = in_columns m plane (site x y) live in
    let wide = p.1.wide in
    let high = p.1.high in
    let s = sets m [] (λ e r. 0) plane g p x y (omega (arith, inside.0, wide)) (omega (arith, inside.1, high)) live a (λ tile is. absurd (cc (is))) in
    (s.0.grid, record { wide = p.1.wide; high = p.1.high; live = p.1.live })
