-- The sites whose whole window lies in the plane and is live.
use Rattle.std.specs.Prelude.{ℕ, ◌≡◌, ◌+◌, ◌*◌, ◌≤◌, ◌<◌, Bool, true, false, List, length, slice_index_or, Some}
use Rattle.cell_grid.specs.Grid.{GridValue, place_of}
use Rattle.window_sites.specs.Inner.{inner_place}

-- some site of the plane within 4 columns and 4 rows of (x, y) is not live
pub record HasDeadNear (width height : ℕ) (live : List Bool) (x y : ℕ) : Type 0 where
  pub u : ℕ
  pub v : ℕ
  pub column : u < width
  pub row : v < height
  pub columns : (u ≤ x + 4) × (x ≤ u + 4)
  pub rows : (v ≤ y + 4) × (y ≤ v + 4)
  pub dead : slice_index_or live (v * width + u) false ≡ false

-- Marks of calm sites: a site has one exactly if every site of the plane within 4 columns and 4 rows of it is live.
pub record AreCalm (width height : ℕ) (live calm : List Bool) : Type 0 where
  pub size : length calm ≡ length live
  pub near : (x y u v : ℕ) → x < width → y < height → u < width → v < height → u ≤ x + 4 → x ≤ u + 4 → v ≤ y + 4 → y ≤ v + 4 →
      slice_index_or calm (y * width + x) false ≡ true → slice_index_or live (v * width + u) false ≡ true
  pub unmarked : (x y : ℕ) → x < width → y < height → slice_index_or calm (y * width + x) false ≡ false → HasDeadNear width height live x y

-- the nine rows and nine columns around (x, y) are all in the plane and live
pub record IsCalm (g : GridValue) (x y : ℕ) : Type 0 where
  pub columns : (4 ≤ x) × (x + 4 < g.width)
  pub rows : (4 ≤ y) × (y + 4 < g.height)
  pub live : (u v : ℕ) → u ≤ x + 4 → x ≤ u + 4 → v ≤ y + 4 → y ≤ v + 4 → slice_index_or g.live (v * g.width + u) false ≡ true

-- the whole window at (x, y) is in the plane and live, and `low` is the place of the first of its nine rows and nine columns
pub record IsCorner (g : GridValue) (x y low : ℕ) : Type 0 where
  pub fits : low + 8 * g.width + 8 < length g.atoms
  pub place : (n : ℕ) → n ≤ 40 → place_of g x y n ≡ Some (inner_place low g.width n)
