-- Films of events: what is kept of each event that is made, and the grid that undoing them gives.
use Rattle.std.specs.Prelude.{ℕ, ◌≡◌, ◌+◌, Bool, true, false, List, [], ◌∷◌, ◌++◌}
use Rattle.window_sites.specs.Window.{WindowValue}
use Rattle.cell_grid.specs.Grid.{GridValue, IsLive, event, put_window, window_of}
use Rattle.cell_grid.specs.Records.{replay}
use Rattle.cell_grid.specs.declared.record.Record.{Record}
use Rattle.event_film.specs.declared.kept.Kept.{Kept}

-- a film: the events that it keeps, and how many more it has room for
pub record FilmValue : Type 0 where
  pub kept : List Kept
  pub spare : ℕ

abbrev pub film_value : List Kept → ℕ → FilmValue
film_value kept spare = record { kept = kept; spare = spare }

-- what is kept of an event on a grid: its centre, and the window there before it
abbrev pub kept_of : GridValue → Record → Kept
kept_of g r = record { x = r.x; y = r.y; window = window_of g r.x r.y }

-- what is kept of some events, one after another
abbrev pub film_of : (WindowValue → ℕ → WindowValue) → GridValue → List Record → List Kept
film_of after g [] = []
film_of after g (r ∷ rs) = kept_of g r ∷ film_of after (event after g r.x r.y r.seed) rs

-- the grid in which each live site of a kept window has its atom again
abbrev pub restore : GridValue → Kept → GridValue
restore g k = put_window g k.x k.y k.window

-- the grid once all kept events are undone, the last of them first
abbrev pub undo_all : GridValue → List Kept → GridValue
undo_all g [] = g
undo_all g (k ∷ ks) = restore (undo_all g ks) k

-- whatever events are made and then undone, the grid is what it was
abbrev pub UndoesAll : Type 0
UndoesAll = (after : WindowValue → ℕ → WindowValue) (g : GridValue) (records : List Record) → undo_all (replay after g records) (film_of after g records) ≡ g

-- the last event that is kept, if there is one, was at a live site
abbrev pub CanUndo : FilmValue → GridValue → Type 0
CanUndo film g = (kept : List Kept) (k : Kept) → film.kept ≡ kept ++ k ∷ [] → IsLive g k.x k.y

-- the result of undoing the last event: true if one was kept, and false if none was
abbrev pub Undoes : FilmValue → FilmValue → GridValue → GridValue → Bool → Type 0
Undoes old new g h true = (k : Kept) × (old.kept ≡ new.kept ++ k ∷ []) × (new.spare ≡ old.spare + 1) × (h ≡ restore g k)
Undoes old new g h false = (old.kept ≡ []) × (new ≡ old) × (h ≡ g)
