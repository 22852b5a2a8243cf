-- What holds of every plane.
use Rattle.std.specs.Prelude.{ℕ, ◌≡◌, ◌≢◌, ◌<◌, ◌≤◌, ◌+◌, ◌*◌, ◌⊎◌, true, false, length, filter, Contains, AllPairs, Some, slice_get}
use Rattle.std.specs.List.Sorted.{IsStrictlyIncreasing}
use Rattle.tile_map.specs.Plane.{Site, MapValue, tiles_of, is_on, is_live, sites_of, is_owned, owner_of, site_in, is_held, in_window}
use Rattle.tile_map.specs.Spans.{left_of, right_of, top_of, bottom_of}
use Rattle.tile_map.specs.Edges.{pairs_of, low_end, high_end, shared_of, register_of, window_site, needs_of}
use Rattle.tile_map.specs.declared.limits.TheConstants.{MOST_EDGES, MOST_NEEDS}

-- the edge is one between t and u
abbrev pub Joins : MapValue → ℕ → ℕ → ℕ → Type 0
Joins m e t u = ((low_end m e ≡ t) × (high_end m e ≡ u)) ⊎ ((low_end m e ≡ u) × (high_end m e ≡ t))

-- the edge shares the site
abbrev pub Shares : MapValue → ℕ → Site → Type 0
Shares m e s = (k : ℕ) × (slice_get (shared_of m e) k ≡ Some s)

-- one pair is before another: by the lower tile, then the higher
abbrev pub IsLower : ℕ × ℕ → ℕ × ℕ → Type 0
IsLower p q = (p.0 < q.0) ⊎ ((p.0 ≡ q.0) × (p.1 < q.1))

-- who owns and holds a site
pub record HasOwners (m : MapValue) : Type 0 where
  -- a live site has an owner, which holds it
  pub owner : (s : Site) → is_live m s ≡ true → is_owned m (owner_of m s) s ≡ true
  pub holder : (s : Site) → is_live m s ≡ true → is_held m (owner_of m s) s ≡ true
  -- and it has no other owner
  pub one : (t : ℕ) (s : Site) → is_owned m t s ≡ true → t ≡ owner_of m s
  -- the positions of a tile's rectangle are its sites in row order
  pub positions : (t k : ℕ) → t < tiles_of m → k < m.w * m.h → slice_get (filter (is_owned m t) (sites_of m)) k ≡ Some (site_in m t k)
  -- a tile that is off holds nothing
  pub off : (t : ℕ) (s : Site) → is_on m t ≡ false → is_held m t s ≡ false
  -- what a tile holds lies in the columns and rows that it reaches
  pub bounds : (t : ℕ) (s : Site) → is_held m t s ≡ true → (left_of m t ≤ s.x) × (s.x < right_of m t) × (top_of m t ≤ s.y) × (s.y < bottom_of m t)
  -- the owner of a live centre holds the window
  pub window : (c s : Site) → is_live m c ≡ true → in_window m c s ≡ true → is_held m (owner_of m c) s ≡ true

-- the live sites of a window are those that its numbers from 0 to 40 name
pub record HasWindows (m : MapValue) : Type 0 where
  pub number : (c s : Site) → in_window m c s ≡ true → (n : ℕ) × (n ≤ 40) × (window_site m c n ≡ Some s)
  pub site : (c s : Site) (n : ℕ) → n ≤ 40 → window_site m c n ≡ Some s → in_window m c s ≡ true

-- the edges
pub record HasEdges (m : MapValue) : Type 0 where
  pub few : length (pairs_of m) ≤ MOST_EDGES
  pub sorted : AllPairs IsLower (pairs_of m)
  pub ends : (e : ℕ) → e < length (pairs_of m) → (low_end m e < high_end m e) × (high_end m e < tiles_of m)
  pub on : (e : ℕ) → e < length (pairs_of m) → (is_on m (low_end m e) ≡ true) × (is_on m (high_end m e) ≡ true)
  -- two tiles that hold a site have one edge, and it shares the site
  pub meet : (t u : ℕ) (s : Site) → t ≢ u → is_held m t s ≡ true → is_held m u s ≡ true → (e : ℕ) × (e < length (pairs_of m)) × Joins m e t u × Shares m e s
  pub one : (e f t u : ℕ) → e < length (pairs_of m) → f < length (pairs_of m) → Joins m e t u → Joins m f t u → e ≡ f
  -- both ends hold what an edge shares
  pub held : (e k : ℕ) (s : Site) → slice_get (shared_of m e) k ≡ Some s → (is_held m (low_end m e) s ≡ true) × (is_held m (high_end m e) s ≡ true)
  -- a site is shared once
  pub once : (e j k : ℕ) (s : Site) → e < length (pairs_of m) → slice_get (shared_of m e) j ≡ Some s → slice_get (shared_of m e) k ≡ Some s → j ≡ k

-- the registers of shared sites
pub record HasRegisters (m : MapValue) : Type 0 where
  -- shared site k has registers 1 + 2k and 2 + 2k
  pub found : (e k : ℕ) (s : Site) → e < length (pairs_of m) → slice_get (shared_of m e) k ≡ Some s → register_of m e s ≡ Some (1 + 2 * k)
  -- and no other site has registers
  pub shared : (e r : ℕ) (s : Site) → register_of m e s ≡ Some r → (k : ℕ) × (slice_get (shared_of m e) k ≡ Some s) × (r ≡ 1 + 2 * k)

-- the edges that an event needs
pub record HasNeeds (m : MapValue) : Type 0 where
  pub few : (t : ℕ) (c : Site) → t < tiles_of m → length (needs_of m t c) ≤ MOST_NEEDS
  pub rising : (t : ℕ) (c : Site) → IsStrictlyIncreasing (needs_of m t c)
  -- a live site of the window that another tile holds makes the edge to that tile needed
  pub needed : (c s : Site) (u : ℕ) → is_live m c ≡ true → in_window m c s ≡ true → owner_of m c ≢ u → is_held m u s ≡ true →
      (e : ℕ) × Contains (needs_of m (owner_of m c) c) e × Joins m e (owner_of m c) u × Shares m e s
  -- a needed edge is one between the tile and another, which holds a live site of the window
  pub cause : (t : ℕ) (c : Site) (e : ℕ) → Contains (needs_of m t c) e →
      (u : ℕ) × (s : Site) × (e < length (pairs_of m)) × Joins m e t u × (t ≢ u) × (in_window m c s ≡ true) × (is_held m u s ≡ true)

pub record IsPlane (m : MapValue) : Type 0 where
  pub owners : HasOwners m
  pub windows : HasWindows m
  pub edges : HasEdges m
  pub registers : HasRegisters m
  pub needs : HasNeeds m
