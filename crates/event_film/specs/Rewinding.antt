-- Events that are made and undone.
use Rattle.std.specs.Prelude.{ℕ, ◌≡◌, ◌+◌, List, length, take}
use Rattle.window_sites.specs.Window.{WindowValue}
use Rattle.cell_grid.specs.Grid.{GridValue}
use Rattle.cell_grid.specs.Records.{replay}
use Rattle.cell_grid.specs.declared.record.Record.{Record}
use Rattle.event_film.specs.Films.{FilmValue, film_of}

-- a film, and the grid at which it ends
pub record Reel : Type 0 where
  pub film : FilmValue
  pub grid : GridValue

abbrev pub reel : FilmValue → GridValue → Reel
reel film grid = record { film = film; grid = grid }

-- the first k of some events were made from a start, and a film keeps them with room for the others
pub record IsAt (after : WindowValue → ℕ → WindowValue) (start : GridValue) (records : List Record) (k : ℕ) (r : Reel) : Type 0 where
  pub kept : r.film.kept ≡ film_of after start (take k records)
  pub spare : r.film.spare + k ≡ length records
  pub grid_is : r.grid ≡ replay after start (take k records)
