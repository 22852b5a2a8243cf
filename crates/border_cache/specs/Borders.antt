-- The centre of a window and an end of an edge, as the code hands them on.
use Rattle.std.specs.Prelude.{◌≡◌, ◌*◌, ◌<◌, ◌≤◌, length, Some}
use Rattle.edge_lock.specs.Edges.{registers_of}
use Rattle.edge_lock.specs.EndLists.{IsHeld}
use Rattle.edge_lock.specs.EndValues.{EndValue}
use Rattle.tile_map.specs.Plane.{Site, MapValue, IsMap, site}
use Rattle.tile_map.specs.Edges.{pairs_of}
use Rattle.tile_map.specs.Tables.{IsSharedArea}
use Rattle.tile_map.specs.declared.span.Area.{Area}
use Rattle.border_cache.specs.declared.border.Centre.{Centre}
use Rattle.border_cache.specs.declared.border.Border.{Border}
use Rattle.border_cache.specs.Windows.{sites_on}
use Rattle.border_cache.specs.Copies.{CacheValue, HoldsWindow}
use Rattle.tile_map.specs.declared.limits.TheConstants.{MOST_SHARED}

-- the site of a centre
abbrev pub site_of : Centre → Site
site_of c = site c.x c.y

-- the plane has the site
pub record IsOnPlane (m : MapValue) (c : Centre) : Type 0 where
  pub valid : IsMap m
  pub x : c.x < m.tx * m.w
  pub y : c.y < m.ty * m.h

-- the plane is the copy's and has the site, and the tile holds the window there
pub record IsCentreOf (m : MapValue) (v : CacheValue) (c : Centre) : Type 0 where
  pub map : m ≡ v.map
  pub plane : IsOnPlane m c
  pub holds : HoldsWindow v.map v.tile (site_of c)

-- the plane has the edge, with so many shared sites
pub record IsBorderOf (m : MapValue) (b : Border) : Type 0 where
  pub edge : b.edge < length (pairs_of m)
  pub sites : b.sites ≡ sites_on m b.edge

-- the same, where the shared sites are an area
pub record IsAreaOf (m : MapValue) (a : Area) (b : Border) : Type 0 where
  pub border : IsBorderOf m b
  pub shared : IsSharedArea m b.edge (Some a)

-- the edge has an open hold of this end and the registers of so many shared sites, of which two tiles have at most 576
pub record IsOpen (value : EndValue) (b : Border) : Type 0 where
  pub few : b.sites ≤ MOST_SHARED
  pub two : b.end < 2
  pub registers : value.registers b.edge ≡ registers_of b.sites
  pub held : IsHeld (value.lists b.edge)
