-- Small worlds whose runs are computed. Two are of two tiles of 16 by 16 sites side by side, one of two by two tiles of 8 by 8. An
-- event moves its atom one site to the east.
use Rattle.std.specs.Prelude.{ℕ, ◌≡◌, List, [], ◌∷◌, ◌++◌, replicate}
use Rattle.bit_field.specs.Atom.{AtomValue, empty_atom}
use Rattle.tile_map.specs.Plane.{Site, site, whole_plane}
use Rattle.cell_grid.specs.declared.record.Record.{Record}
use Rattle.cell_grid.specs.Grid.{empty_grid, with_site, site_atom}
use Rattle.cell_grid.specs.Tried.{after_turn}
use Rattle.draw_stream.specs.declared.attempt.Attempt.{Attempt}
use Rattle.draw_stream.specs.Plans.{scripted}
use Rattle.event_journal.specs.declared.abandoned.Abandoned.{Abandoned}
use Rattle.stepped_world.specs.Machine.{Machine, stepped}

abbrev pub walker : AtomValue
walker = record { kind = 1; state = 0 }

-- an attempt at a position of a tile's rectangle
abbrev pub row_attempt : ℕ → Attempt
row_attempt centre = record { centre = centre; seed = 0 }

-- an event with this stamp, of this attempt by its tile and its number there, at a site
abbrev pub row_event : ℕ → ℕ × ℕ → Site → Record
row_event stamp attempt s = record { stamp = stamp; tile = attempt.0; attempt = attempt.1; x = s.x; y = s.y; seed = 0 }

-- this tile and attempt, at a site, was refused edge e by this tile and attempt
abbrev pub row_refusal : ℕ × ℕ → Site → ℕ → ℕ × ℕ → Abandoned
row_refusal attempt s e holder = record { tile = attempt.0; attempt = attempt.1; x = s.x; y = s.y; edge = e; holder = holder.0; holder_attempt = holder.1 }

-- the run of two tiles side by side, with an atom at this site of row 4
abbrev pub run_of_two : ℕ → List Attempt → List Attempt → List ℕ → Machine
run_of_two x first second order = stepped (whole_plane 2 1 16 16) after_turn (with_site (empty_grid 32 16) x 4 walker) (scripted (first ∷ second ∷ [])) order

-- the entries, in the order of time
pub record Notes (s : Machine) (records : List Record) (abandoned : List Abandoned) : Type 0 where
  pub records_are : s.records ≡ records
  pub abandoned_are : s.abandoned ≡ abandoned

-- attempts on both sides of the border, one at the atom
abbrev pub at_the_border : List ℕ → Machine
at_the_border order = run_of_two 15 (row_attempt 79 ∷ []) (row_attempt 64 ∷ []) order

-- the first has its event before the second comes, and the second moves the same atom on: its own site was written by the other tile
pub record CrossesTheBorder (s : Machine) : Type 0 where
  pub notes : Notes s (row_event 1 (0, 0) (site 15 4) ∷ row_event 2 (1, 0) (site 16 4) ∷ []) []
  pub left : site_atom s.grid 16 4 ≡ empty_atom
  pub there : site_atom s.grid 17 4 ≡ walker

-- the second comes while the first has the edge
pub record IsRefusedAtTheBorder (s : Machine) : Type 0 where
  pub notes : Notes s (row_event 1 (0, 0) (site 15 4) ∷ []) (row_refusal (1, 0) (site 16 4) 0 (0, 0) ∷ [])
  pub there : site_atom s.grid 16 4 ≡ walker

-- one attempt far enough from the border needs no edge; the next needs the one that the other tile has
abbrev pub near_and_far : List ℕ → Machine
near_and_far order = run_of_two 7 (row_attempt 71 ∷ row_attempt 72 ∷ []) (row_attempt 64 ∷ []) order

pub record NeedsNoEdgeAfar (s : Machine) : Type 0 where
  pub notes : Notes s (row_event 1 (0, 0) (site 7 4) ∷ row_event 1 (1, 0) (site 16 4) ∷ []) (row_refusal (0, 1) (site 8 4) 0 (1, 0) ∷ [])
  pub there : site_atom s.grid 8 4 ≡ walker

-- four tiles round one corner, with an attempt of each there
abbrev pub at_the_corner : List ℕ → Machine
at_the_corner order = stepped (whole_plane 2 2 8 8) after_turn (with_site (empty_grid 16 16) 7 7 walker) (scripted ((row_attempt 63 ∷ []) ∷ (row_attempt 56 ∷ []) ∷ (row_attempt 7 ∷ []) ∷ (row_attempt 0 ∷ []) ∷ [])) order

-- each in turn, round the corner
abbrev pub GoesRound : Machine → Type 0
GoesRound s = Notes s (row_event 1 (0, 0) (site 7 7) ∷ row_event 2 (1, 0) (site 8 7) ∷ row_event 3 (3, 0) (site 8 8) ∷ row_event 4 (2, 0) (site 7 8) ∷ []) []

-- one is refused by an attempt that is refused itself
abbrev pub IsRefusedInARow : Machine → Type 0
IsRefusedInARow s = Notes s (row_event 1 (2, 0) (site 7 8) ∷ row_event 2 (3, 0) (site 8 8) ∷ []) (row_refusal (0, 0) (site 7 7) 0 (1, 0) ∷ row_refusal (1, 0) (site 8 7) 4 (3, 0) ∷ [])

-- the results of these runs
pub record AreComputed : Type 0 where
  pub crosses : CrossesTheBorder (at_the_border (0 ∷ 0 ∷ 0 ∷ 0 ∷ 0 ∷ 0 ∷ 1 ∷ []))
  pub refused : IsRefusedAtTheBorder (at_the_border (0 ∷ 0 ∷ 1 ∷ 1 ∷ []))
  pub afar : NeedsNoEdgeAfar (near_and_far (1 ∷ 1 ∷ 0 ∷ 0 ∷ 0 ∷ 0 ∷ 0 ∷ 0 ∷ []))
  pub round : GoesRound (at_the_corner (replicate 10 0 ++ replicate 10 1 ++ replicate 10 3 ++ replicate 10 2))
  pub row : IsRefusedInARow (at_the_corner (3 ∷ 3 ∷ 3 ∷ 1 ∷ 1 ∷ 0 ∷ 0 ∷ 1 ∷ 1 ∷ []))
