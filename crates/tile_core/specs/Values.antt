-- What contracts see of a tile.
use Rattle.std.specs.Prelude.{ℕ, List, [], Option, Some, None}
use Rattle.bit_field.specs.Atom.{AtomValue}
use Rattle.window_sites.specs.Window.{WindowValue}
use Rattle.tile_map.specs.Plane.{Site, site}
use Rattle.cell_grid.specs.Grid.{GridValue, site_atom}
use Rattle.cell_grid.specs.declared.record.Record.{Record}
use Rattle.event_journal.specs.declared.abandoned.Abandoned.{Abandoned}
use Rattle.draw_stream.specs.declared.attempt.Attempt.{Attempt}
use Rattle.border_cache.specs.Copies.{CacheValue}
use Rattle.tile_core.specs.declared.phase.Phase.{Phase}
use Rattle.tile_core.specs.declared.phase.Phase.TheVariants.{Draw, Lock, Refresh, Behave, Write, Give, Back, Finished, Worn}

-- a tile: its number, its copy of the sites that it holds, the attempts that are left and how many were taken, its clock
-- (the stamp of its last event), the attempt in hand, its events and abandoned attempts, and its phase
pub record TileValue : Type 0 where
  pub number : ℕ
  pub cache : CacheValue
  pub left : List Attempt
  pub taken : ℕ
  pub stamp : ℕ
  -- the centre and the seed of the attempt in hand, and the edges that it needs
  pub x : ℕ
  pub y : ℕ
  pub seed : ℕ
  pub needs : List ℕ
  -- the place among the needed edges of the one to be tried or freed, and how many of them the tile got before it was refused
  pub next : ℕ
  pub count : ℕ
  -- the event's stamp, and the window that it left, until that is written
  pub event_stamp : ℕ
  pub window : WindowValue
  pub records : List Record
  pub abandoned : List Abandoned
  pub phase : Phase

-- what a tile has in place of a window while no event is to be written
abbrev pub no_window : WindowValue
no_window = record { atoms = []; live = [] }

-- a tile, with what acts on its windows
pub record TileWith (B : Type 0) : Type 0 where
  pub core : TileValue
  pub behave : B

abbrev pub tile_with : {B : Type 0} → TileValue → B → TileWith B
tile_with core behave = record { core = core; behave = behave }

-- the centre of the attempt in hand
abbrev pub centre : TileValue → Site
centre tile = site tile.x tile.y

-- the centres of an event and of an abandoned attempt
abbrev pub event_site : Record → Site
event_site r = site r.x r.y

abbrev pub given_up_site : Abandoned → Site
given_up_site a = site a.x a.y

-- the atoms of a grid, by site
abbrev pub atoms_of : GridValue → Site → AtomValue
atoms_of g s = site_atom g s.x s.y

-- the centre of the attempt in hand, if there is one
abbrev pub in_hand_at : Phase → ℕ → ℕ → Option (ℕ × ℕ)
in_hand_at Draw x y = None
in_hand_at Lock x y = Some (x, y)
in_hand_at Refresh x y = Some (x, y)
in_hand_at Behave x y = Some (x, y)
in_hand_at Write x y = Some (x, y)
in_hand_at Give x y = Some (x, y)
in_hand_at Back x y = Some (x, y)
in_hand_at Finished x y = None
in_hand_at Worn x y = Some (x, y)
