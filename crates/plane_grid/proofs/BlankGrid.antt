-- A grid of a plane, all of whose sites are empty, is the plane's blank grid.
use Rattle.std.proofs.Common.{ℕ, ◌≡◌, ◌*◌, ◌/◌, ◌%◌, ◌+◌, ◌<◌, ◌≤◌, false, get_or, replicate, sym, ap, ◌∙◌, arith, mod-lt, div-add-mod'}
use Rattle.std.proofs.lemmas.List.FromFn.{fill_by_all}
use Rattle.list_laws.proofs.Numbers.{div_lt}
use Rattle.bit_field.specs.Atom.{empty_atom}
use Rattle.plane_grid.specs.PlaneGrids.{IsGridOf}
use Rattle.cell_grid.specs.Grid.{GridValue, IsGrid}
use Rattle.tile_map.specs.Plane.{MapValue, IsMap, is_live}
use Rattle.plane_grid.specs.BlankGrid.{blank_grid, plane_sites, site_at}

some_columns : (a b : ℕ) → 1 ≤ a → 8 ≤ b → 0 < a * b
some_columns a b p q = grind arith

wide : (m : MapValue) → IsMap m → 0 < m.tx * m.w
wide m k = some_columns m.tx m.w k.sizes.tx_low k.sizes.w_low

-- a plane without atoms is one grid
pub blank_is : (m : MapValue) → IsMap m → (g : GridValue) → IsGrid g → IsGridOf m g → g.atoms ≡ replicate (g.width * g.height) empty_atom → g ≡ blank_grid m
unfolding blank_grid
blank_is m k g grid fits empty =
    let count : g.width * g.height ≡ plane_sites m = (λ i. fits.wide i * fits.high i) in
    let atoms : g.atoms ≡ replicate (plane_sites m) empty_atom = empty ∙ ap (λ n. replicate n empty_atom) count in
    let live = fill_by_all (λ i. is_live m (site_at m i)) g.live (plane_sites m) false (grid.marked ∙ count) live_at in
    λ i. record { width = fits.wide i; height = fits.high i; atoms = atoms i; live = live i }
  where
    live_at : (i : ℕ) → i < plane_sites m → get_or g.live i false ≡ is_live m (site_at m i)
    live_at i lt =
        let w = m.tx * m.w in
        let x : i % w < g.width = let a = mod-lt i (wide m k) in omega (arith, a, fits.wide) in
        let y : i / w < g.height = let b = div_lt i w (m.ty * m.h) (wide m k) lt in omega (arith, b, fits.high) in
        let place : i / w * g.width + i % w ≡ i = ap (λ n. i / w * n + i % w) fits.wide ∙ div-add-mod' i w in
        sym (ap (λ n. get_or g.live n false) place) ∙ fits.live (i % w) (i / w) x y
