-- A run that is over: a plane of one tile, of 8 by 8 empty sites, and one attempt at its first site, whose event changes nothing.
use Rattle.std.specs.Prelude.{ℕ, ◌+◌, ◌/◌, ◌%◌, [], ◌∷◌, nat_le, if◌then◌else◌, map}
use Rattle.std.specs.List.{range_with_len}
use Rattle.bit_field.specs.Atom.{empty_atom}
use Rattle.window_sites.specs.Window.{WindowValue}
use Rattle.tile_map.specs.Plane.{MapValue, whole_plane}
use Rattle.cell_grid.specs.declared.record.Record.{Record}
use Rattle.cell_grid.specs.Grid.{empty_grid}
use Rattle.draw_stream.specs.declared.attempt.Attempt.{Attempt}
use Rattle.draw_stream.specs.Plans.{scripted}
use Rattle.border_cache.specs.Cells.{CellValue, cell_value}
use Rattle.border_cache.specs.Copies.{cache_of}
use Rattle.tile_core.specs.declared.phase.Phase.TheVariants.{Finished}
use Rattle.tile_core.specs.Values.{TileValue}
use Rattle.serial_order.specs.Scene.{Scene}

abbrev pub small_plane : MapValue
small_plane = whole_plane 1 1 8 8

abbrev pub first_attempt : Attempt
first_attempt = record { centre = 0; seed = 5 }

abbrev pub first_record : Record
first_record = record { stamp = 1; tile = 0; attempt = 0; x = 0; y = 0; seed = 5 }

-- no event changes anything
abbrev pub stays : WindowValue → ℕ → WindowValue
stays w seed = w

-- the cell at a place of the rectangle: the event's, if the window covers it
abbrev pub cell_left_at : ℕ → CellValue
cell_left_at i = cell_value (if nat_le (i % 8 + i / 8) 4 then 1 else 0) empty_atom

abbrev pub small_tile : TileValue
small_tile = record {
  number = 0;
  cache = cache_of small_plane 0 (map cell_left_at (range_with_len 0 64));
  left = [];
  taken = 1;
  stamp = 1;
  x = 0;
  y = 0;
  seed = 5;
  needs = [];
  next = 0;
  count = 0;
  event_stamp = 1;
  window = record { atoms = []; live = [] };
  records = first_record ∷ [];
  abandoned = [];
  phase = Finished;
}

abbrev pub small_scene : Scene
small_scene = record {
  map = small_plane;
  meaning = stays;
  start = empty_grid 8 8;
  plan = scripted ((first_attempt ∷ []) ∷ []);
  tiles = small_tile ∷ [];
  edges = [];
}
