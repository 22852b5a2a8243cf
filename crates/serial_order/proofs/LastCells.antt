-- In the end the newest cells are those of the replayed grid.
use Rattle.std.proofs.Common.{ℕ, ◌≡◌, ◌≢◌, ◌≤◌, ◌<◌, List, [], ◌∷◌, refl, sym, ap, subst, arith, ◌⊎◌, inl, inr, ⊎_elim, true, Option, Some, None, ◌∙◌, length}
use Rattle.std.specs.Prelude.{slice_get}
use Rattle.std.proofs.lemmas.Bool.{cases_eq}
use Rattle.std.proofs.lemmas.Option.{slice_get_within}
use Rattle.bit_field.specs.Atom.{empty_atom}
use Rattle.window_sites.specs.Window.{WindowValue}
use Rattle.tile_map.specs.Plane.{Site, MapValue, is_live, is_held}
use Rattle.tile_map.specs.Edges.{pairs_of, shared_of, needs_of}
use Rattle.tile_map.specs.Laws.{Joins, Shares}
use Rattle.cell_grid.specs.Grid.{GridValue, IsGrid, site_atom}
use Rattle.cell_grid.specs.Records.{Precedes, replay}
use Rattle.edge_lock.specs.declared.history.Hold.{Hold}
use Rattle.list_laws.proofs.Members.{In, InOrder}
use Rattle.border_cache.specs.Cells.{CellValue, cell_value, cell_of}
use Rattle.plane_grid.specs.PlaneGrids.{IsGridOf}
use Rattle.border_cache.specs.Windows.{and_cell, edge_place}
use Rattle.tile_core.specs.Turns.{Won, Turn, cells_of}
use Rattle.tile_core.specs.Values.{event_site, atoms_of}
use Rattle.serial_order.specs.Settled.{cell_in_registers, edge_cells, settled_cell}
use Rattle.serial_order.proofs.Coherence.{Latest, untouched, touched, Candidates, coherent}
use Rattle.serial_order.proofs.Ground.{IsEnd, needed, placed, place_is}
use Rattle.serial_order.proofs.Histories.{values, cell_at}
use Rattle.serial_order.proofs.Edge.{HasHold, latest_is}
use Rattle.serial_order.proofs.Edge.{cell_by as cell_on}
use Rattle.serial_order.proofs.Deeds.{is_near, covers, at_place}
use Rattle.serial_order.proofs.Tile.{Did, DidWrite, cell_by, last_is, grows}
use Rattle.serial_order.proofs.World.{IsRun, Needs, EventOn, deeds, past_of, owner_is, live_centre, has_hold, of_events}
use Rattle.serial_order.proofs.Order.{Writes, held, is_event, one_writer}
use Rattle.serial_order.proofs.Replay.{DoneAt, Split, IsJournal, notes, replayed, journal_rises, same_latest}

-- the edges of a tile that share a site are among these
abbrev pub HasEdges : MapValue → ℕ → List ℕ → Site → Type 0
HasEdges m t es s = (e : ℕ) → e < length (pairs_of m) → IsEnd m t e → Shares m e s → In e es

left_by : (m : MapValue) (registers : ℕ → ℕ → ℕ) (es : List ℕ) (s : Site) (d : CellValue) → In d (edge_cells m registers es s) → (e : ℕ) × (k : ℕ) × In e es × (edge_place m e s ≡ Some k) × (d ≡ cell_at (registers e) k)
left_by m registers [] s d i = absurd i
left_by m registers (e ∷ es) s d i = go (edge_place m e s) refl i (λ j. left_by m registers es s d j)
  where
    go : (o : Option ℕ) → edge_place m e s ≡ o → In d (and_cell (cell_in_registers (registers e) o) (edge_cells m registers es s))
        → (In d (edge_cells m registers es s) → (c : ℕ) × (k : ℕ) × In c es × (edge_place m c s ≡ Some k) × (d ≡ cell_at (registers c) k))
        → (c : ℕ) × (k : ℕ) × In c (e ∷ es) × (edge_place m c s ≡ Some k) × (d ≡ cell_at (registers c) k)
    go None p i rec = let r = rec i in (r.0, r.1, inr r.2, r.3, r.4)
    go (Some k) p i rec = ⊎_elim (λ q. (e, k, inl refl, p, q)) (λ j. let r = rec j in (r.0, r.1, inr r.2, r.3, r.4)) i

by_left : (m : MapValue) (registers : ℕ → ℕ → ℕ) (es : List ℕ) (s : Site) (e k : ℕ) → In e es → edge_place m e s ≡ Some k → In (cell_at (registers e) k) (edge_cells m registers es s)
by_left m registers [] s e k i h = absurd i
by_left m registers (c ∷ es) s e k i h = go (edge_place m c s) refl i (λ j. by_left m registers es s e k j h)
  where
    go : (o : Option ℕ) → edge_place m c s ≡ o → In e (c ∷ es) → (In e es → In (cell_at (registers e) k) (edge_cells m registers es s)) → In (cell_at (registers e) k) (and_cell (cell_in_registers (registers c) o) (edge_cells m registers es s))
    go None p i rec = ⊎_elim (λ q. absurd (cc (ap (λ x. edge_place m x s) q, p, h))) (λ j. rec j) i
    go (Some j) p i rec =
        ⊎_elim (λ (q : e ≡ c). let same : k ≡ j = cc (ap (λ x. edge_place m x s) q, p, h) in inl (λ i. cell_at (registers (q i)) (same i))) (λ g. inr (rec g)) i

module _ (m : MapValue) (meaning : WindowValue → ℕ → WindowValue) (first : GridValue) (turns : ℕ → List Turn) (hist : ℕ → List Hold) (run : IsRun m meaning (atoms_of first) turns hist) where
  abbrev pub registers : ℕ → ℕ → ℕ
  registers e = values (hist e)

  -- the edge of a tile that holds a site and another that wrote it
  edge_to : (t : ℕ) (v : Won) (s : Site) → t ≢ v.note.tile → is_held m t s ≡ true → Writes m turns s v → (e : ℕ) × (e < length (pairs_of m)) × Joins m e t v.note.tile × Shares m e s × Needs m v e
  edge_to t v s ne h i =
      let g = run.plane.edges.meet t v.note.tile s ne h (held m meaning (atoms_of first) turns hist run v s i) in
      let o = owner_is m meaning (atoms_of first) turns hist run v i.0 in
      let j : Joins m g.0 v.note.tile t = ⊎_elim (λ p. inr p) (λ p. inl p) g.2 in (
        g.0,
        g.1,
        g.2,
        g.3,
        subst (λ u. In g.0 (needs_of m u (event_site v.note))) o
            (needed m run.plane (event_site v.note) s t g.0 (live_centre m meaning (atoms_of first) turns hist run v i.0) i.1 (λ q. ne (sym (sym o ∙ q))) h (subst (λ u. Joins m g.0 u t) (sym o) j)),
      )

  known_left : (s : Site) (e k : ℕ) → slice_get (shared_of m e) k ≡ Some s → ((cell_at (values (hist e)) k).stamp ≡ 0) ⊎ ((v : Won) × Writes m turns s v × (cell_at (values (hist e)) k ≡ cell_by v s))
  known_left s e k at = go (latest_is (deeds m turns e) (hist e) (run.histories e) (of_events m meaning (atoms_of first) turns hist run e) k (slice_get_within (shared_of m e) k s at))
    where
      go : Latest (λ y. HasHold (deeds m turns e) (hist e) y × ((deeds m turns e).covers y k ≡ true)) (λ y. cell_on (deeds m turns e) y k) (cell_of 0 0) (cell_at (values (hist e)) k)
          → ((cell_at (values (hist e)) k).stamp ≡ 0) ⊎ ((v : Won) × Writes m turns s v × (cell_at (values (hist e)) k ≡ cell_by v s))
      go (untouched is none) = inl (ap (λ (c : CellValue). c.stamp) is)
      go (touched y j is low) = inr (y.won, (y.did, subst (λ o. is_near m (event_site y.won.note) o ≡ true) at j.1), is ∙ (λ i. record { stamp = y.won.note.stamp; atom = at_place (empty_atom) y.won.after (at i) }))

  covers_left : (s : Site) (e k : ℕ) (v : Won) → slice_get (shared_of m e) k ≡ Some s → Writes m turns s v → Needs m v e → v.note.stamp ≤ (cell_at (values (hist e)) k).stamp
  covers_left s e k v at i n = go (latest_is (deeds m turns e) (hist e) (run.histories e) (of_events m meaning (atoms_of first) turns hist run e) k (slice_get_within (shared_of m e) k s at))
    where
      x : EventOn m turns e
      x = record { won = v; did = i.0; needs = n }

      near : covers m e (event_site v.note) k ≡ true
      near = subst (λ o. is_near m (event_site v.note) o ≡ true) (sym at) i.1

      go : Latest (λ y. HasHold (deeds m turns e) (hist e) y × ((deeds m turns e).covers y k ≡ true)) (λ y. cell_on (deeds m turns e) y k) (cell_of 0 0) (cell_at (values (hist e)) k)
          → v.note.stamp ≤ (cell_at (values (hist e)) k).stamp
      go (untouched is none) = absurd (none x (has_hold m meaning (atoms_of first) turns hist run e x, near))
      go (touched y j is low) = low x (has_hold m meaning (atoms_of first) turns hist run e x, near)

  settled_candidates : (t : ℕ) (es : List ℕ) (s : Site) → is_held m t s ≡ true → HasEdges m t es s → Candidates (Writes m turns s) (λ v. cell_by v s) (cell_value 0 (atoms_of first s)) (cells_of m (atoms_of first) (turns t) s) (edge_cells m registers es s)
  settled_candidates t es s h he = record {
    fresh = refl;
    own_known = own_known (last_is m meaning (atoms_of first) t (turns t) (run.played t) s);
    found_known = λ d i.
        let r = left_by m registers es s d i in
        ⊎_elim (λ (z : (cell_at (values (hist r.0)) r.1).stamp ≡ 0). inl (ap (λ (c : CellValue). c.stamp) r.4 ∙ z)) (λ (z : (v : Won) × Writes m turns s v × (cell_at (values (hist r.0)) r.1 ≡ cell_by v s)). inr (z.0, z.1, r.4 ∙ z.2)) (known_left s r.0 r.1 (placed m run.plane r.0 r.1 s r.3));
    covered = λ v i. ⊎_elim (λ e. inl (own_covers v i e (last_is m meaning (atoms_of first) t (turns t) (run.played t) s))) (λ ne. inr (other v i ne)) (cases_eq t v.note.tile);
    positive = λ v i. let o = past_of m meaning (atoms_of first) turns hist run v i.0 in omega (arith, grows m meaning (atoms_of first) v.note.tile o.before v o.won);
  }
    where
      own_known : Latest (DidWrite m (turns t) s) (λ v. cell_by v s) (cell_value 0 (atoms_of first s)) (cells_of m (atoms_of first) (turns t) s) → (cells_of m (atoms_of first) (turns t) s ≡ cell_value 0 (atoms_of first s)) ⊎ ((v : Won) × Writes m turns s v × (cells_of m (atoms_of first) (turns t) s ≡ cell_by v s))
      own_known (untouched is none) = inl is
      own_known (touched v i is low) = inr (v, (is_event m meaning (atoms_of first) turns hist run t v i.0, i.1), is)

      own_covers : (v : Won) → Writes m turns s v → t ≡ v.note.tile → Latest (DidWrite m (turns t) s) (λ v. cell_by v s) (cell_value 0 (atoms_of first s)) (cells_of m (atoms_of first) (turns t) s) → v.note.stamp ≤ (cells_of m (atoms_of first) (turns t) s).stamp
      own_covers v i e (untouched is none) = absurd (none v (subst (λ u. Did (turns u) v) (sym e) i.0, i.1))
      own_covers v i e (touched u j is low) = low v (subst (λ u. Did (turns u) v) (sym e) i.0, i.1)

      other : (v : Won) → Writes m turns s v → t ≢ v.note.tile → (d : CellValue) × In d (edge_cells m registers es s) × (v.note.stamp ≤ d.stamp)
      other v i ne =
          let g = edge_to t v s ne h i in
          let mine : IsEnd m t g.0 = ⊎_elim (λ p. inl p.0) (λ p. inr p.1) g.2 in
          (cell_at (values (hist g.0)) g.3.0, by_left m registers es s g.0 g.3.0 (he g.0 g.1 mine g.3) (place_is m run.plane g.0 g.3.0 s g.1 g.3.1), covers_left s g.0 g.3.0 v g.3.1 i g.4)

  -- the settled cell is what was written last of all
  pub settled_is : (t : ℕ) (es : List ℕ) (s : Site) → is_held m t s ≡ true → HasEdges m t es s → Latest (Writes m turns s) (λ v. cell_by v s) (cell_value 0 (atoms_of first s)) (settled_cell m registers (cells_of m (atoms_of first) (turns t)) es s)
  settled_is t es s h he = coherent (Writes m turns s) (λ v. cell_by v s) (cell_value 0 (atoms_of first s)) (cells_of m (atoms_of first) (turns t) s) (edge_cells m registers es s) (settled_candidates t es s h he)

  -- and so it is the atom of the replayed grid
  pub grid_is_replay : IsGrid first → IsGridOf m first → (ws : List Won) → IsJournal turns ws → InOrder Precedes (notes ws) → (t : ℕ) (es : List ℕ) (s : Site) → is_held m t s ≡ true → is_live m s ≡ true → HasEdges m t es s
      → (settled_cell m registers (cells_of m (atoms_of first) (turns t)) es s).atom ≡ site_atom (replay meaning first (notes ws)) s.x s.y
  grid_is_replay good fits ws j o t es s h live he =
      let sp : Split m meaning first turns hist run [] ws = record { events = λ v i. ⊎_elim (λ e. absurd e) (λ k. j.events v k) i; all = λ v i. inr (j.all v i); order = λ p v q i k a b. absurd i } in
      let r = replayed m meaning first turns hist run [] ws first sp (journal_rises m meaning first turns hist run ws j.events o) (record { grid = good; of = fits; atoms = λ q l. (0, untouched refl (λ v i. absurd i.0)) }) in
      let cell = r.3.atoms s live in
      ap (λ (c : CellValue). c.atom)
      (same_latest (Writes m turns s) (DoneAt m meaning first turns hist run r.0 s) (λ v. cell_by v s) (cell_value 0 (atoms_of first s)) (settled_cell m registers (cells_of m (atoms_of first) (turns t)) es s) (cell_value cell.0 (site_atom (replay meaning first (notes ws)) s.x s.y))
      (λ v i. (r.2 v i.0, i.1)) (λ v i. (r.1 v i.0, i.1)) (λ e f a b same. ap (λ u. cell_by u s) (sym (one_writer m meaning (atoms_of first) turns hist run e f s a b same))) (settled_is t es s h he) cell.1)

  -- the replay keeps the plane
  pub replay_fits : IsGrid first → IsGridOf m first → (ws : List Won) → IsJournal turns ws → InOrder Precedes (notes ws) → IsGrid (replay meaning first (notes ws)) × IsGridOf m (replay meaning first (notes ws))
  replay_fits good fits ws j o =
      let sp : Split m meaning first turns hist run [] ws = record { events = λ v i. ⊎_elim (λ e. absurd e) (λ k. j.events v k) i; all = λ v i. inr (j.all v i); order = λ p v q i k a b. absurd i } in
      let r = replayed m meaning first turns hist run [] ws first sp (journal_rises m meaning first turns hist run ws j.events o) (record { grid = good; of = fits; atoms = λ q l. (0, untouched refl (λ v i. absurd i.0)) }) in
      (r.3.grid, r.3.of)
