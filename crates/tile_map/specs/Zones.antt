-- The zones of a tile: events at the sites of one need the same edges.
use Rattle.std.specs.Prelude.{ℕ, ◌≡◌, ◌+◌, ◌-◌, ◌/◌, ◌%◌, min, nat_le, nat_lt, if◌then◌else◌, List, length, map}
use Rattle.std.specs.List.{range_with_len}
use Rattle.tile_map.specs.declared.span.Area.{Area}
use Rattle.tile_map.specs.declared.span.TheConstants.{ZONES_ACROSS, ZONES}
use Rattle.tile_map.specs.Plane.{Site, MapValue, site}
use Rattle.tile_map.specs.Edges.{needs_of}
use Rattle.tile_map.specs.Tables.{own_of}

-- the zone of a place of an interval: each of the first eight and of the last eight places is one, and all between are one
abbrev pub zone_of : ℕ → ℕ → ℕ → ℕ
zone_of first end x = if nat_lt (x - first) 8 then x - first else 16 - min (end - 1 - x) 8

-- a place of a zone, and some place where the interval has none of the zone
abbrev pub place_of : ℕ → ℕ → ℕ → ℕ
place_of first end z = if nat_le z 8 then first + min z (end - 1 - first) else end - 1 - (16 - z)

-- a site of a zone of an area, whose zones are numbered row by row
abbrev pub zone_site : Area → ℕ → Site
zone_site a z = site (place_of a.columns.first a.columns.end (z % ZONES_ACROSS)) (place_of a.rows.first a.rows.end (z / ZONES_ACROSS))

-- what an event at a site of a zone needs; the zones of the plane are numbered tile by tile
abbrev pub zone_needs : MapValue → ℕ → List ℕ
zone_needs m k = needs_of m (k / ZONES) (zone_site (own_of m (k / ZONES)) (k % ZONES))

-- a list that has this of the first zones
abbrev pub AreZones : MapValue → List (List ℕ) → Type 0
AreZones m ns = ns ≡ map (zone_needs m) (range_with_len 0 (length ns))
