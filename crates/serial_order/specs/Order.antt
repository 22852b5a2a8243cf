-- What holds of any tiles that are over: all events stand in one serial order.
use Rattle.std.specs.Prelude.{ℕ, ◌≡◌, ◌≤◌, ◌<◌, ◌+◌, ◌*◌, ◌%◌, List, All, Contains, true, length, slice_get, slice_index_or, Some}
use Rattle.std.specs.Int.{bit_at}
use Rattle.tile_map.specs.Plane.{Site, MapValue, in_window}
use Rattle.tile_map.specs.Edges.{pairs_of, has_end, shared_of}
use Rattle.cell_grid.specs.declared.record.Record.{Record}
use Rattle.cell_grid.specs.Grid.{GridValue}
use Rattle.cell_grid.specs.Records.{replay}
use Rattle.edge_lock.specs.declared.history.Hold.{Hold}
use Rattle.edge_lock.specs.History.{found_value, value_after, IsHistory}
use Rattle.event_journal.specs.declared.abandoned.Abandoned.{Abandoned}
use Rattle.event_journal.specs.Logs.{LogValue, AreLogs, IsLog, abandoned_in, records_in}
use Rattle.event_journal.specs.Serial.{OwesNothing}
use Rattle.border_cache.specs.Cells.{cell_of}
use Rattle.border_cache.specs.News.{word_of}
use Rattle.border_cache.specs.Windows.{end_at, sites_on}
use Rattle.border_cache.specs.Copies.{held_cell}
use Rattle.tile_core.specs.declared.phase.Phase.TheVariants.{Finished}
use Rattle.tile_core.specs.Values.{TileValue, event_site}
use Rattle.serial_order.specs.Scene.{Scene, logs_of, registers_at}
use Rattle.serial_order.specs.Settled.{IsSettled}

-- the records of all tiles in the order of the journal, and their abandoned attempts
abbrev pub records : Scene → List Record
records s = records_in (logs_of s.tiles)

abbrev pub abandoned : Scene → List Abandoned
abandoned s = abandoned_in (logs_of s.tiles)

-- no tile is worn out
abbrev pub NoneIsWorn : Scene → Type 0
NoneIsWorn s = (t : ℕ) (tile : TileValue) → slice_get s.tiles t ≡ Some tile → tile.phase ≡ Finished

-- the logs make a journal
abbrev pub MakeJournal : List LogValue → Type 0
MakeJournal logs = AreLogs logs × All IsLog logs

-- a grid of the newest cells is the replay of the records from the start grid
abbrev pub IsReplayed : Scene → Type 0
IsReplayed s = (g : GridValue) → IsSettled s.map s.tiles (registers_at s.edges) g → g ≡ replay s.meaning s.start (records s)

-- no stamp is greater than the number of records
abbrev pub StampsAreSmall : List Record → Type 0
StampsAreSmall rs = All (λ (r : Record). r.stamp ≤ length rs) rs

-- two records of one stamp have no live site in common
abbrev pub TiesAreApart : MapValue → List Record → Type 0
TiesAreApart m rs = (r q : Record) (u : Site) → Contains rs r → Contains rs q → r.stamp ≡ q.stamp → in_window m (event_site r) u ≡ true → in_window m (event_site q) u ≡ true → r ≡ q

-- following the named holders leads, over rising edges, to a record
pub data Leads (rs : List Record) (gs : List Abandoned) : Abandoned → Type 0 where
  arrives : (g : Abandoned) (r : Record) → Contains rs r → r.tile ≡ g.holder → r.attempt ≡ g.holder_attempt → Leads rs gs g
  goes : (g k : Abandoned) → Contains gs k → k.tile ≡ g.holder → k.attempt ≡ g.holder_attempt → g.edge < k.edge → Leads rs gs k → Leads rs gs g

-- if the news bit of an end is 0 for a shared site, the edge's cell has no greater stamp than that
-- end's own
abbrev pub HasNoNews : Scene → Type 0
HasNoNews s = (e k t : ℕ) (u : Site) (tile : TileValue) → e < length (pairs_of s.map) → has_end s.map t e ≡ true → slice_get s.tiles t ≡ Some tile → slice_get (shared_of s.map e) k ≡ Some u
    → bit_at (registers_at s.edges e (word_of (sites_on s.map e) (end_at s.map t e) k)) (k % 64) ≡ 0
    → (cell_of (registers_at s.edges e (1 + 2 * k)) (registers_at s.edges e (2 + 2 * k))).stamp ≤ (held_cell tile.cache u).stamp

-- all events of the tiles stand in one serial order
pub record HasOneOrder (s : Scene) : Type 0 where
  pub unworn : NoneIsWorn s
  pub journal : MakeJournal (logs_of s.tiles)
  pub owes : OwesNothing s.map s.plan (records s) (abandoned s)
  pub replayed : IsReplayed s
  pub small : StampsAreSmall (records s)
  pub apart : TiesAreApart s.map (records s)
  pub leads : All (Leads (records s) (abandoned s)) (abandoned s)
  pub no_news : HasNoNews s

-- what a hold finds in a register is that register as the hold begins
abbrev pub FindsWhatStands : Type 0
FindsWhatStands = (sites : ℕ) (holds : List Hold) (k : ℕ) (d : Hold) (register v : ℕ) → IsHistory sites holds → k < length holds → found_value (slice_index_or holds k d).accesses register ≡ Some v → v ≡ value_after holds k register
