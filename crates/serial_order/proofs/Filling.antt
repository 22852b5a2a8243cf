-- The live sites of a grid are given their settled atoms, one after another.
use Rattle.std.proofs.Common.{ℕ, ◌≡◌, ◌≤◌, ◌<◌, ◌+◌, ◌*◌, ◌==◌, List, Bool, true, false, Some, length, get_or, refl, sym, ap, subst, ◌∙◌, arith, eqb-true}
use Rattle.std.specs.Prelude.{slice_get}
use Rattle.std.specs.Option.{option_map}
use Rattle.std.proofs.lemmas.Bool.Decides.{nat_tests}
use Rattle.std.proofs.lemmas.List.{length-map, length-set, get_or-set_same, get_or-set_other}
use Rattle.std.proofs.lemmas.Option.{slice_get-map, slice_get_read}
use Rattle.bit_field.specs.Atom.{AtomValue, empty_atom}
use Rattle.tile_map.specs.Plane.{Site, MapValue, site, tiles_of, is_live, owner_of}
use Rattle.tile_map.specs.Edges.{edges_at}
use Rattle.tile_map.specs.Laws.{IsPlane}
use Rattle.cell_grid.specs.Grid.{GridValue, IsLive, ArePlanesAlike, site_atom, with_site}
use Rattle.plane_grid.specs.PlaneGrids.{IsGridOf, IsPlaneGrid}
use Rattle.border_cache.specs.Copies.{held_cell}
use Rattle.tile_core.specs.Values.{TileWith, TileValue}
use Rattle.serial_order.specs.Settled.{settled_cell, IsSettledAt, IsSettledTo, IsSettled}
use Rattle.serial_order.specs.Outcomes.{values_of, AreTilesOf, ChangesSite}
use Rattle.serial_order.proofs.Grids.{index, in_columns, index_live, one_site, same_index}

-- the tile at a number
pub tile_there : {B : Type 0} (m : MapValue) (tiles : List (TileWith B)) → AreTilesOf m (values_of tiles) → (t : ℕ) → t < tiles_of m → (x : TileWith B) → x ≡ get_or tiles t x → slice_get (values_of tiles) t ≡ Some x.core
tile_there m tiles are t lt x is = slice_get-map (λ y. y.core) tiles t ∙ ap (option_map (λ y. y.core)) (slice_get_read tiles (tiles_of m) t x (sym are.count ∙ length-map tiles (λ y. y.core)) lt is)

module _ (m : MapValue) (tiles : List TileValue) (registers : ℕ → ℕ → ℕ) where
  abbrev pub HasSettledCell : GridValue → Site → TileValue → Type 0
  HasSettledCell g s tile = site_atom g s.x s.y ≡ (settled_cell m registers (held_cell tile.cache) (edges_at m (owner_of m s)) s).atom

  pub live_there : (g : GridValue) → IsPlaneGrid m g → (x y : ℕ) → x < g.width → y < g.height → is_live m (site x y) ≡ true → IsLive g x y
  live_there g p x y lx ly live = record { column = lx; row = ly; marked = p.1.live x y lx ly ∙ live }

  -- a live site is given an atom
  pub sets : IsPlane m → (g : GridValue) → IsPlaneGrid m g → (x y : ℕ) → x < g.width → y < g.height → is_live m (site x y) ≡ true → (a : AtomValue)
      → ((tile : TileValue) → slice_get tiles (owner_of m (site x y)) ≡ Some tile → a ≡ (settled_cell m registers (held_cell tile.cache) (edges_at m (owner_of m (site x y))) (site x y)).atom)
      → ChangesSite m (site x y) g (with_site g x y a) × IsSettledAt m tiles registers (site x y) (with_site g x y a)
  sets plane g p x y lx ly live a settled = (
    record {
      grid = record {
        wide = p.0.wide;
        not_wider = p.0.not_wider;
        high = p.0.high;
        not_higher = p.0.not_higher;
        whole = length-set g.atoms (y * g.width + x) a ∙ p.0.whole;
        marked = p.0.marked;
        hidden = λ i lt dead. get_or-set_other g.atoms (y * g.width + x) i a empty_atom (λ e. apart i dead e) ∙ p.0.hidden i lt dead;
      };
      plane = (refl, refl, refl);
      others = λ u at ne. get_or-set_other g.atoms (y * g.width + x) (u.y * g.width + u.x) a empty_atom (λ e. ne (one_site m plane g p.1 (site x y) u live at e));
    },
    λ tile at is. get_or-set_same g.atoms (y * g.width + x) a empty_atom there ∙ settled tile is,
  )
    where
      there : y * g.width + x < length g.atoms
      there = index_live m plane g p.1 p.0 (site x y) live

      marked : get_or g.live (y * g.width + x) false ≡ true
      marked = p.1.live x y lx ly ∙ live

      apart : (i : ℕ) → get_or g.live i false ≡ false → i ≡ y * g.width + x → ⊥
      apart i dead e = cc (dead, ap (λ k. get_or g.live k false) e ∙ marked)

  pub none_settled : (n : ℕ) (g : GridValue) → IsPlaneGrid m g → n ≡ 0 → IsSettledTo m tiles registers n g
  none_settled n g p none = record { grid = p.0; fits = p.1; atoms = λ u lt tile live is. absurd (omega (arith, lt, none)) }

  pub all_settled : IsPlane m → (n : ℕ) (g : GridValue) → g.width * g.height ≤ n → IsSettledTo m tiles registers n g → IsSettled m tiles registers g
  all_settled plane n g all h = record { grid = h.grid; fits = h.fits; atoms = λ u tile live is. h.atoms u (let lt = index_live m plane g h.fits h.grid u live in let count = h.grid.whole in omega (arith, lt, count, all)) tile live is }

  fits_alike : (g k : GridValue) → IsGridOf m g → ArePlanesAlike g k → IsGridOf m k
  fits_alike g k of p = record {
    wide = p.0 ∙ of.wide;
    high = p.1 ∙ of.high;
    live = λ x y a b. (λ i. get_or (p.2 i) (y * p.0 i + x) false) ∙ of.live x y (omega (arith, a, p.0)) (omega (arith, b, p.1));
  }

  -- one site more
  pub one_settled : IsPlane m → (x y : ℕ) (old new : GridValue) → x < old.width → IsSettledTo m tiles registers (y * old.width + x) old → ChangesSite m (site x y) old new
      → IsSettledAt m tiles registers (site x y) new → IsSettledTo m tiles registers (y * old.width + (x + 1)) new
  one_settled plane x y old new column h s here = record {
    grid = s.grid;
    fits = fits_alike old new h.fits s.plane;
    atoms = λ u le. at u (subst (λ w. u.y * w + u.x < y * old.width + (x + 1)) s.plane.0 le) (index old u == y * old.width + x) refl;
  }
    where
      at : (u : Site) → index old u < y * old.width + (x + 1) → (b : Bool) → (index old u == y * old.width + x) ≡ b → IsSettledAt m tiles registers u new
      at u le true q tile live is =
          let e : index old u ≡ y * old.width + x = eqb-true (index old u) (y * old.width + x) q in
          let inside = (in_columns m plane u live).0 in
          let wide = h.fits.wide in
          let both = same_index u.x u.y x y old.width (omega (arith, inside, wide)) column e in
          let same : site x y ≡ u = (λ i. site (sym both.0 i) (sym both.1 i)) in
          subst (λ v. is_live m v ≡ true → slice_get tiles (owner_of m v) ≡ Some tile → HasSettledCell new v tile) same (λ l k. here tile l k) live is
      at u le false q tile live is =
          s.others u live (λ e. absurd (grind (arith, nat_tests, q, ap (λ (v : Site). index old v) e))) ∙ h.atoms u (grind (arith, nat_tests, q, le)) tile live is
