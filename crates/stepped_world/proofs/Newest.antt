-- At the end the newest cells are the machine's grid: the events one after another in the order of time leave what they leave in the journal's order.
use Rattle.std.proofs.Common.{◌≡◌, ℕ, ◌+◌, ◌<◌, map, ◌==◌, List, [], ◌∷◌, length, refl, sym, ap, ◌∙◌, subst, arith, inr, ⊎_elim, true, Some}
use Rattle.std.specs.Prelude.{slice_get}
use Rattle.std.specs.List.{range_with_len}
use Rattle.std.specs.Option.{option_map}
use Rattle.std.proofs.lemmas.Bool.Decides.{nat_tests}
use Rattle.std.proofs.lemmas.Option.{slice_get-map}
use Rattle.list_laws.proofs.Slots.{get_inside}
use Rattle.window_sites.specs.Window.{WindowValue}
use Rattle.tile_map.specs.Plane.{MapValue, tiles_of}
use Rattle.cell_grid.specs.declared.record.Record.{Record}
use Rattle.cell_grid.specs.Grid.{GridValue, IsGrid, site_atom}
use Rattle.cell_grid.specs.Records.{Precedes, replay}
use Rattle.edge_lock.specs.declared.history.Hold.{Hold}
use Rattle.edge_lock.specs.PlainBoard.{PlainBoardValue}
use Rattle.list_laws.proofs.Members.{In, InOrder, in_filter, filter_in, get_in, pairs_order}
use Rattle.border_cache.specs.Cells.{CellValue, cell_value}
use Rattle.plane_grid.specs.PlaneGrids.{IsGridOf}
use Rattle.border_cache.specs.Copies.{IsCentre}
use Rattle.tile_core.specs.Values.{TileWith, TileValue, atoms_of, event_site}
use Rattle.tile_core.specs.Turns.{Won, Turn, Wins, records_in_turns}
use Rattle.event_journal.specs.Logs.{log_of, records_in, of_tile, abandoned_by}
use Rattle.serial_order.specs.Scene.{on_map, log_of_tile, logs_of, Scene, IsOver, registers_at}
use Rattle.event_journal.specs.Serial.{Course}
use Rattle.serial_order.specs.Order.{records}
use Rattle.serial_order.specs.Settled.{IsSettled}
use Rattle.serial_order.specs.Words.{histories_on}
use Rattle.serial_order.specs.Outcomes.{scene_of, values_of}
use Rattle.serial_order.proofs.Coherence.{untouched}
use Rattle.serial_order.proofs.Entries.{AreEntries, journal}
use Rattle.serial_order.proofs.Ground.{owner_inside}
use Rattle.serial_order.proofs.Journal.{events, ordered}
use Rattle.serial_order.proofs.Order.{one_writer}
use Rattle.plane_grid.proofs.OneGrid.{one_grid}
use Rattle.serial_order.proofs.Promises.{one_order}
use Rattle.serial_order.proofs.Replay.{IsJournal, WritesRise, Split, IsLeft, DoneAt, notes, in_notes, replayed, journal_rises, same_latest}
use Rattle.serial_order.proofs.Tile.{cell_by}
use Rattle.serial_order.proofs.TileLog.{in_records, records_in as note_in}
use Rattle.serial_order.proofs.Whole.{turns, hist, run, laws, tile_told, tile_of}
use Rattle.serial_order.proofs.World.{IsRun, IsEvent}
use Rattle.stepped_world.specs.Machine.{Machine}
use Rattle.stepped_world.specs.Ends.{logs_in}
use Rattle.stepped_world.specs.Running.{StampsRise, IsLike}
use Rattle.stepped_world.proofs.Slots.{value_at, map_places}

rises_in_time : (m : MapValue) (ws : List Won) → InOrder (StampsRise m) (notes ws) → WritesRise m ws
rises_in_time m [] o = tt
rises_in_time m (w ∷ ws) o = (λ v s i a b. o.0 v.note (in_notes v ws i) s a b, rises_in_time m ws o.1)

-- two orders of all events in which the stamps rise at each site leave one grid
module _ (m : MapValue) (meaning : WindowValue → ℕ → WindowValue) (first : GridValue) (turns' : ℕ → List Turn) (hist' : ℕ → List Hold) (run' : IsRun m meaning (atoms_of first) turns' hist') (good : IsGrid first) (fits : IsGridOf m first) where
  record Left (g : GridValue) : Type 0 where
    done : List Won
    events : (v : Won) → In v done → IsEvent turns' v
    all : (v : Won) → IsEvent turns' v → In v done
    left : IsLeft m meaning first turns' hist' run' done g

  left_by : (ws : List Won) → IsJournal turns' ws → WritesRise m ws → Left (replay meaning first (notes ws))
  left_by ws j rises =
      let sp : Split m meaning first turns' hist' run' [] ws = record { events = λ v i. ⊎_elim (λ e. absurd e) (λ k. j.events v k) i; all = λ v i. inr (j.all v i); order = λ p v q i k a b. absurd i } in
      let r = replayed m meaning first turns' hist' run' [] ws first sp rises (record { grid = good; of = fits; atoms = λ q l. (0, untouched refl (λ v i. absurd i.0)) }) in
      record { done = r.0; events = r.1; all = r.2; left = r.3 }

  one_left : (g h : GridValue) → Left g → Left h → g ≡ h
  one_left g h p q = one_grid m g h p.left.grid q.left.grid p.left.of q.left.of (λ s live.
      let c = p.left.atoms s live in let d = q.left.atoms s live in
      ap (λ (x : CellValue). x.atom)
      (same_latest (DoneAt m meaning first turns' hist' run' p.done s) (DoneAt m meaning first turns' hist' run' q.done s) (λ v. cell_by v s) (cell_value 0 (atoms_of first s)) (cell_value c.0 (site_atom g s.x s.y)) (cell_value d.0 (site_atom h s.x s.y))
      (λ v i. (q.all v (p.events v i.0), i.1)) (λ v i. (p.all v (q.events v i.0), i.1))
      (λ e f i j same. ap (λ u. cell_by u s) (sym (one_writer m meaning (atoms_of first) turns' hist' run' e f s (p.events e i.0, i.1) (p.events f j.0, j.1) same))) c.1 d.1))

  pub two_orders : (vs ws : List Won) → IsJournal turns' vs → IsJournal turns' ws → WritesRise m vs → WritesRise m ws → replay meaning first (notes vs) ≡ replay meaning first (notes ws)
  two_orders vs ws i j p q = one_left (replay meaning first (notes vs)) (replay meaning first (notes ws)) (left_by vs i p) (left_by ws j q)

module _ {B : Type 0} (m : MapValue) (g : Course) (tiles : List (TileWith B)) (board : PlainBoardValue) (o : IsOver (scene_of (on_map m g) (values_of tiles) (histories_on board))) (s : Machine) (k : IsLike (on_map m g) tiles board s) where
  abbrev c : Scene
  c = scene_of (on_map m g) (values_of tiles) (histories_on board)

  value_there : (t : ℕ) (x : TileWith B) → slice_get tiles t ≡ Some x → slice_get (values_of tiles) t ≡ Some x.core
  value_there t x is = slice_get-map (λ (z : TileWith B). z.core) tiles t ∙ ap (option_map (λ (z : TileWith B). z.core)) is

  mine : (t : ℕ) (r : Record) → r.tile ≡ t → (r.tile == t) ≡ true
  mine t r e = grind (arith, nat_tests, e)

  -- a tile's entries among the machine's are those of its turns
  same_records : (t : ℕ) (x : TileWith B) → slice_get tiles t ≡ Some x → of_tile t s.records ≡ records_in_turns (turns c o t)
  same_records t x is = sym (k.matches.records t x is) ∙ (tile_told c o t x.core (value_there t x is)).records

  owner_there : (n : Record) → In n s.records → n.tile < length tiles
  owner_there n i =
      let q = get_in s.records n n i in
      let centre : IsCentre m n.tile (event_site n) = subst (λ (r : Record). IsCentre m r.tile (event_site r)) q.2 (k.sound.owned q.0 n q.1) in
      let lt = owner_inside m (laws c o) (event_site n) centre.live in
      let count : length (values_of tiles) ≡ tiles_of m = o.count in
      let same : length (values_of tiles) ≡ length tiles = Rattle.std.proofs.lemmas.List.length-map tiles (λ (z : TileWith B). z.core) in
      omega (arith, lt, centre.owned, count, same)

  entries : AreEntries (turns c o) s.records
  entries = record {
    events = λ n i.
        let x = get_inside tiles n.tile (owner_there n i) in
        let r = in_records n (turns c o n.tile) (subst (In n) (same_records n.tile x.0 x.1) (in_filter (λ (r : Record). r.tile == n.tile) s.records n i (mine n.tile n refl))) in
        (r.0, subst (λ t. In (Wins r.0) (turns c o t)) (ap (λ (q : Record). q.tile) r.2) r.1, r.2);
    all = λ w i.
        let p = tile_of c o w.note.tile (Wins w) i in
        let x = value_at tiles w.note.tile p.0 p.1 in
        (filter_in (λ (r : Record). r.tile == w.note.tile) s.records w.note (subst (In w.note) (sym (same_records w.note.tile x.0 x.1)) (note_in w (turns c o w.note.tile) i))).0;
  }

  -- the events in the order of the journal leave the machine's grid
  journal_leaves : replay g.meaning g.start (records c) ≡ s.grid
  journal_leaves =
      let time = journal m g.meaning (atoms_of g.start) (turns c o) (hist c o) (run c o) s.records entries in
      let first = events c o in
      let rises = rises_in_time m time.0 (subst (InOrder (StampsRise m)) (sym time.1) (pairs_order (StampsRise m) s.records k.sound.rises)) in
      let order = journal_rises m g.meaning g.start (turns c o) (hist c o) (run c o) first.0 first.2.events (subst (InOrder Precedes) (sym first.1) (ordered c o)) in
      ap (replay g.meaning g.start) (sym first.1)
      ∙ (two_orders m g.meaning g.start (turns c o) (hist c o) (run c o) o.grid o.fits first.0 time.0 first.2 time.2 order rises
      ∙ (ap (replay g.meaning g.start) time.1 ∙ sym k.sound.grid))

  -- the grid of the newest cells
  pub newest_is : (h : GridValue) → IsSettled m (values_of tiles) (registers_at (histories_on board)) h → h ≡ s.grid
  newest_is h set = (one_order c o).replayed h set ∙ journal_leaves

  -- the tiles' logs
  pub logs_are : logs_of (values_of tiles) ≡ logs_in m s
  logs_are =
      map_places log_of_tile (λ t. log_of t (of_tile t s.records) (abandoned_by t s.abandoned)) (values_of tiles) 0 each
      ∙ ap (λ n. map (λ t. log_of t (of_tile t s.records) (abandoned_by t s.abandoned)) (range_with_len 0 n)) o.count
    where
      each : (t : ℕ) (tile : TileValue) → slice_get (values_of tiles) t ≡ Some tile → log_of_tile tile ≡ log_of (0 + t) (of_tile (0 + t) s.records) (abandoned_by (0 + t) s.abandoned)
      each t tile is =
          let x = value_at tiles t tile is in
          let z : 0 + t ≡ t = omega arith in
          (λ i. log_of (o.numbers t tile is i) ((ap (λ (v : TileValue). v.records) (sym x.2) ∙ k.matches.records t x.0 x.1) i) ((ap (λ (v : TileValue). v.abandoned) (sym x.2) ∙ k.matches.abandoned t x.0 x.1) i))
          ∙ ap (λ n. log_of n (of_tile n s.records) (abandoned_by n s.abandoned)) (sym z)

  pub replay_is : replay g.meaning g.start (records_in (logs_in m s)) ≡ s.grid
  replay_is = ap (λ ls. replay g.meaning g.start (records_in ls)) (sym logs_are) ∙ journal_leaves
