-- The edges of a plane as numbers.
use Rattle.std.specs.Prelude.{ℕ, ◌<◌, ◌+◌, ◌*◌, ◌/◌, List, length, map, slice_index_or}
use Rattle.tile_map.specs.Plane.{MapValue}
use Rattle.tile_map.specs.Edges.{shared_by, pairs_of}

-- how many news words each end of an edge with n shared sites has: one bit for each site, 64 bits a
-- word
abbrev pub news_words : ℕ → ℕ
news_words sites = (sites + 63) / 64

-- how many registers an edge with n shared sites has: the clock, two for each site, and the news
-- words of both ends
abbrev pub registers_of : ℕ → ℕ
registers_of sites = 1 + 2 * sites + 2 * news_words sites

-- the register of a news word of an end; those of end 0 come first
abbrev pub news_register : ℕ → ℕ → ℕ → ℕ
news_register sites end word = 1 + 2 * sites + end * news_words sites + word

-- an edge: its two tiles, the lower one first, and its number of shared sites
pub record EdgeSize : Type 0 where
  pub lower : ℕ
  pub higher : ℕ
  pub sites : ℕ

-- the lower tile is smaller
pub record IsEdgeSize (z : EdgeSize) : Type 0 where
  pub rises : z.lower < z.higher

-- no edge
abbrev pub no_size : EdgeSize
no_size = record { lower = 0; higher = 0; sites = 0 }

-- the edge of a number
abbrev pub size_at : List EdgeSize → ℕ → EdgeSize
size_at zs e = slice_index_or zs e no_size

-- a pair of neighbouring tiles of a map with the number of sites that both hold
abbrev pub pair_size : MapValue → ℕ × ℕ → EdgeSize
pair_size m p = record { lower = p.0; higher = p.1; sites = length (shared_by m p) }

-- the edges of a map
abbrev pub sizes_of : MapValue → List EdgeSize
sizes_of m = map (pair_size m) (pairs_of m)
