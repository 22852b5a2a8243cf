-- The logs of the tiles, and the journal that they make.
use Rattle.std.specs.Prelude.{ℕ, ◌≡◌, ◌≤◌, ◌<◌, ◌+◌, ◌⊎◌, ◌==◌, Bool, ◌&&◌, ◌||◌, nat_lt, List, All, AllPairs, length, map, flat_map, IsPermutation, filter}
use Rattle.std.specs.List.{range_with_len}
use Rattle.cell_grid.specs.declared.record.Record.{Record}
use Rattle.cell_grid.specs.Records.{Precedes}
use Rattle.event_journal.specs.declared.abandoned.Abandoned.{Abandoned}
use Rattle.event_journal.specs.Merged.{merged}
use Rattle.feast_base.specs.declared.limits.TheConstants.{MOST_ATTEMPTS, MOST_TILES}

-- a tile's log: its events and its abandoned attempts
pub record LogValue : Type 0 where
  pub tile : ℕ
  pub records : List Record
  pub abandoned : List Abandoned

abbrev pub log_of : ℕ → List Record → List Abandoned → LogValue
log_of tile records abandoned = record { tile = tile; records = records; abandoned = abandoned }

-- of two events of a tile the later has the greater attempt and the greater stamp
abbrev pub RisesTo : Record → Record → Type 0
RisesTo r s = (r.attempt < s.attempt) × (r.stamp < s.stamp)

-- the entries of one tile, in the order in which they were made
pub record IsLog (l : LogValue) : Type 0 where
  pub records : All (λ (r : Record). r.tile ≡ l.tile) l.records
  pub abandoned : All (λ (a : Abandoned). a.tile ≡ l.tile) l.abandoned
  pub rising : AllPairs RisesTo l.records
  pub attempts : AllPairs (λ (a b : Abandoned). a.attempt < b.attempt) l.abandoned

abbrev pub tile_of : LogValue → ℕ
tile_of l = l.tile

abbrev pub records_of : LogValue → List Record
records_of l = l.records

abbrev pub abandoned_of : LogValue → List Abandoned
abandoned_of l = l.abandoned

-- the abandoned attempts of all tiles, tile by tile
abbrev pub abandoned_in : List LogValue → List Abandoned
abandoned_in logs = flat_map abandoned_of logs

-- log t is of tile t, there are at most 64 logs, and at most 1,000,000 entries in total
pub record AreLogs (logs : List LogValue) : Type 0 where
  pub tiles : map tile_of logs ≡ range_with_len 0 (length logs)
  pub most : length logs ≤ MOST_TILES
  pub few : length (flat_map records_of logs) + length (abandoned_in logs) ≤ MOST_ATTEMPTS

-- whether an event comes before another in a journal: by stamp, and then by tile
abbrev pub is_before : Record → Record → Bool
is_before r s = nat_lt r.stamp s.stamp || (r.stamp == s.stamp && nat_lt r.tile s.tile)

-- the events of all tiles in the order of the journal
unfoldable pub records_in : List LogValue → List Record
records_in logs = merged is_before (map records_of logs)

-- whether an abandoned attempt comes before another: by tile, and then by attempt
abbrev pub ComesBefore : Abandoned → Abandoned → Type 0
ComesBefore a b = (a.tile < b.tile) ⊎ ((a.tile ≡ b.tile) × (a.attempt < b.attempt))

-- what the journal of some logs is
pub record IsJournal (logs : List LogValue) : Type 0 where
  -- its records are those of the logs, each once, in the order of the journal
  pub records : IsPermutation (flat_map records_of logs) (records_in logs)
  pub order : AllPairs Precedes (records_in logs)
  -- no other list has this property
  pub one : (rs : List Record) → IsPermutation (flat_map records_of logs) rs → AllPairs Precedes rs → rs ≡ records_in logs
  -- its abandoned attempts are in order of tile and then attempt
  pub abandoned : AllPairs ComesBefore (abandoned_in logs)

-- the events of a tile
abbrev pub of_tile : ℕ → List Record → List Record
of_tile t records = filter (λ (r : Record). r.tile == t) records

-- the abandoned attempts of a tile
abbrev pub abandoned_by : ℕ → List Abandoned → List Abandoned
abandoned_by t abandoned = filter (λ (g : Abandoned). g.tile == t) abandoned
