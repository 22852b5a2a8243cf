-- What a run is settled from, and the result.
use Rattle.std.specs.Prelude.{ℕ, ◌≡◌, ◌≤◌, ◌<◌, ◌*◌, ◌+◌, ◌||◌, ◌/◌, ◌%◌, true, false, List, All, length, map, slice_get, slice_index_or, replicate, nat_le, Some}
use Rattle.bit_field.specs.Atom.{empty_atom}
use Rattle.tile_map.specs.Plane.{Site, MapValue, site, tiles_of, is_on, is_live, is_held, owner_of}
use Rattle.tile_map.specs.Spans.{is_within}
use Rattle.cell_grid.specs.Grid.{GridValue, IsGrid, ArePlanesAlike, site_atom}
use Rattle.event_journal.specs.Logs.{records_in, abandoned_in}
use Rattle.event_journal.specs.Serial.{Course, IsSerial}
use Rattle.tile_core.specs.Values.{TileWith, TileValue}
use Rattle.serial_order.specs.Scene.{EdgeHistory, InEachCourse, InSomeCourse, Scene, IsOver, course_of, logs_of, registers_at}
use Rattle.serial_order.specs.Settled.{IsSettledTo}
use Rattle.serial_order.specs.Words.{WordsValue}
use Rattle.serial_order.specs.Order.{NoneIsWorn, MakeJournal, StampsAreSmall, TiesAreApart, Leads}
use Rattle.serial_order.specs.declared.outcome.Outcome.{Outcome}
use Rattle.serial_order.specs.declared.unshared.Unshared.{Unshared}

-- the values of tiles, without what acts on them
abbrev pub values_of : {B : Type 0} → List (TileWith B) → List TileValue
values_of tiles = map (λ t. t.core) tiles

-- these tiles and edges at the end of a course
abbrev pub scene_of : Course → List TileValue → List EdgeHistory → Scene
scene_of c tiles edges = record { map = c.map; meaning = c.meaning; start = c.start; plan = c.plan; tiles = tiles; edges = edges }

-- in some course of the map the tiles have played, and the edges have what they did
abbrev pub AreOver : MapValue → List TileValue → List EdgeHistory → Type 0
AreOver m tiles edges = InSomeCourse m (λ c. IsOver (scene_of c tiles edges))

-- The outcome of a run whose events stand in one serial order, that of its journal. No stamp is greater than the number of
-- events, two events of one stamp have no live site in common, and following the named holders leads to an event.
pub record StandsInOneOrder (c : Course) (o : Outcome) : Type 0 where
  pub serial : IsSerial c o.grid (records_in o.journal) (abandoned_in o.journal)
  pub journal : MakeJournal o.journal
  pub small : StampsAreSmall (records_in o.journal)
  pub apart : TiesAreApart c.map (records_in o.journal)
  pub leads : All (Leads (records_in o.journal) (abandoned_in o.journal)) (abandoned_in o.journal)

-- a settled run: no tile is worn out, the journal's entries are those of the tiles, and all events stand in one serial order
pub record IsSettlement (s : Scene) (o : Outcome) : Type 0 where
  pub unworn : NoneIsWorn s
  pub journal : o.journal ≡ logs_of s.tiles
  pub in_order : StandsInOneOrder (course_of s) o

-- the outcome is a settlement, in whatever course of the map these tiles have played
abbrev pub Settles : MapValue → List TileValue → List EdgeHistory → Outcome → Type 0
Settles m tiles edges o = InEachCourse m (λ c. IsOver (scene_of c tiles edges) → IsSettlement (scene_of c tiles edges) o)

-- one tile for each of the map, each with a copy that is its own
pub record AreTilesOf (m : MapValue) (tiles : List TileValue) : Type 0 where
  pub count : length tiles ≡ tiles_of m
  pub maps : (t : ℕ) (tile : TileValue) → slice_get tiles t ≡ Some tile → tile.cache.map ≡ m
  pub numbers : (t : ℕ) (tile : TileValue) → slice_get tiles t ≡ Some tile → tile.cache.tile ≡ t

-- a grid of the plane whose first n sites, row by row, have the newest of what these tiles and words of their edges have
abbrev pub IsSettledBy : {B : Type 0} → MapValue → List (TileWith B) → WordsValue → ℕ → GridValue → Type 0
IsSettledBy m tiles words n g = IsSettledTo m (values_of tiles) (registers_at words.histories) n g

-- the new grid is one of the same plane, with the atoms of the old one at all live sites but this
pub record ChangesSite (m : MapValue) (s : Site) (old new : GridValue) : Type 0 where
  pub grid : IsGrid new
  pub plane : ArePlanesAlike old new
  pub others : (u : Site) → is_live m u ≡ true → (u ≡ s → ⊥) → site_atom new u.x u.y ≡ site_atom old u.x u.y

-- columns and rows of a tile that no other tile holds
pub record IsUnshared (m : MapValue) (i : Unshared) : Type 0 where
  pub tile : i.tile < tiles_of m
  pub alone : (u x y : ℕ) → is_within i.left i.right i.top i.bottom x y ≡ true → is_held m u (site x y) ≡ true → u ≡ i.tile

-- a stretch of row y that lies in one tile: `size` sites from column left on
pub record IsStretch (m : MapValue) (left size y : ℕ) : Type 0 where
  pub some : 0 < size
  pub inside : left + size ≤ m.tx * m.w
  pub row : y < m.ty * m.h
  pub owner : (x : ℕ) → left ≤ x → x < left + size → owner_of m (site x y) ≡ owner_of m (site left y)
