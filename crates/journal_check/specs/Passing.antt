-- What is left of the lists of entries after one was taken.
use Rattle.std.specs.Prelude.{ℕ, ◌≡◌, Bool, false, List, [], ◌∷◌, Option, Some, None}
use Rattle.event_journal.specs.Logs.{of_tile, abandoned_by}
use denote.Ref.{Bor}
use Rattle.cell_grid.specs.declared.record.Record.{Record}
use Rattle.draw_stream.specs.declared.attempt.Attempt.{Attempt}
use Rattle.tile_map.specs.Plane.{MapValue}
use Rattle.event_journal.specs.declared.abandoned.Abandoned.{Abandoned}
use Rattle.journal_check.specs.Entries.{next_abandoned, next_entry}

-- there are no events, or the first is one of the tile's
abbrev pub IsFirstOf : ℕ → List Record → Type 0
IsFirstOf t [] = Unit {0}
IsFirstOf t (r ∷ rs) = r.tile ≡ t

abbrev pub IsFirstAbandoned : ℕ → List Abandoned → Type 0
IsFirstAbandoned t [] = Unit {0}
IsFirstAbandoned t (g ∷ gs) = g.tile ≡ t

-- whether the tile's entries that are left pass a test, if an entry was taken
abbrev pub passes : ℕ → (List Record → List Abandoned → Bool) → Option (Bor (List Record) × Bor (List Abandoned)) → Bool
passes t rest None = false
passes t rest (Some p) = rest (of_tile t p.0.now) (abandoned_by t p.1.now)

-- an attempt that a tile drew, with its number there
pub record DrawnAttempt : Type 0 where
  pub tile : ℕ
  pub number : ℕ
  pub attempt : Attempt

abbrev pub drawn_attempt : ℕ → ℕ → Attempt → DrawnAttempt
drawn_attempt tile number attempt = record { tile = tile; number = number; attempt = attempt }

-- the entry of an attempt was taken from the front of the tile's events or abandoned attempts: the next entry is that of
-- the attempt, and the others pass a test, exactly if something is left and what is left passes the test
abbrev pub TakesEntry : MapValue → DrawnAttempt → List Record → List Abandoned → Option (Bor (List Record) × Bor (List Abandoned)) → Type 0
TakesEntry m a records abandoned left = (rest : List Record → List Abandoned → Bool) →
    next_entry m a.tile a.number a.attempt (of_tile a.tile records) (abandoned_by a.tile abandoned) rest ≡ passes a.tile rest left

-- the same of an attempt that is no event
abbrev pub TakesAbandoned : MapValue → DrawnAttempt → List Record → List Abandoned → Option (Bor (List Record) × Bor (List Abandoned)) → Type 0
TakesAbandoned m a records abandoned left = (rest : List Record → List Abandoned → Bool) →
    next_abandoned m a.tile a.number a.attempt (abandoned_by a.tile abandoned) (rest (of_tile a.tile records)) ≡ passes a.tile rest left
