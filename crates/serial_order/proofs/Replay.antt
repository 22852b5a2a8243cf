-- The journal's events, one at a time on one grid.
use Rattle.std.proofs.Common.{ℕ, ◌≡◌, ◌≤◌, ◌<◌, List, [], ◌∷◌, refl, sym, ap, subst, arith, ◌⊎◌, inl, inr, ⊎_elim, Bool, true, false, Some, ◌∙◌}
use Rattle.window_sites.specs.Window.{WindowValue, atom_at}
use Rattle.tile_map.specs.Plane.{Site, MapValue, is_live, in_window}
use Rattle.tile_map.specs.Edges.{needs_of, window_site}
use Rattle.cell_grid.specs.declared.record.Record.{Record}
use Rattle.cell_grid.specs.Grid.{GridValue, IsGrid, site_atom, window_of, event}
use Rattle.cell_grid.specs.Records.{Precedes, replay}
use Rattle.cell_grid.proofs.Windows.{IsGrid-put}
use Rattle.edge_lock.specs.declared.history.Hold.{Hold}
use Rattle.list_laws.proofs.Members.{In, InOrder}
use Rattle.border_cache.specs.Cells.{CellValue, cell_value, newest}
use Rattle.plane_grid.specs.PlaneGrids.{IsGridOf}
use Rattle.border_cache.specs.News.{found_cell}
use Rattle.border_cache.specs.Windows.{and_cell, seen_on, edge_place_some, end_at, sites_on}
use Rattle.tile_core.specs.Turns.{Won, Turn, Wins, cells_of, accesses_at, own_cell, newest_at}
use Rattle.tile_core.specs.Values.{event_site, atoms_of}
use Rattle.serial_order.proofs.Coherence.{Latest, untouched, touched}
use Rattle.serial_order.proofs.Grids.{live_of, event_in, event_out, grid_stays, view_is}
use Rattle.serial_order.proofs.Tile.{Past, cell_by}
use Rattle.serial_order.proofs.World.{IsRun, IsEvent, past_of}
use Rattle.serial_order.proofs.Order.{Writes, WroteBelow, one_writer, coherence, found_cells}

pub same_latest : {E : Type 0} (P Q : E → Type 0) (cell : E → CellValue) (base c d : CellValue) → ((e : E) → P e → Q e) → ((e : E) → Q e → P e)
    → ((e f : E) → P e → P f → (cell e).stamp ≡ (cell f).stamp → cell e ≡ cell f) → Latest P cell base c → Latest Q cell base d → c ≡ d
same_latest P Q cell base c d to from one (untouched a none) (untouched b none') = a ∙ sym b
same_latest P Q cell base c d to from one (untouched a none) (touched e i b low) = absurd (none e (from e i))
same_latest P Q cell base c d to from one (touched e i a low) (untouched b none) = absurd (none e (to e i))
same_latest P Q cell base c d to from one (touched e i a low) (touched f j b low') =
    let x : (cell f).stamp ≤ c.stamp = low f (from f j) in
    let y : (cell e).stamp ≤ d.stamp = low' e (to e i) in
    let s : (cell e).stamp ≡ (cell f).stamp = omega (arith, x, y, ap (λ (q : CellValue). q.stamp) a, ap (λ (q : CellValue). q.stamp) b) in
    a ∙ (one e f i (from f j) s ∙ sym b)

-- the records of some events
abbrev pub notes : List Won → List Record
notes [] = []
notes (w ∷ ws) = w.note ∷ notes ws

pub in_notes : (w : Won) (ws : List Won) → In w ws → In w.note (notes ws)
in_notes w [] i = i
in_notes w (v ∷ ws) i = ⊎_elim (λ e. inl (ap (λ (u : Won). u.note) e)) (λ j. inr (in_notes w ws j)) i

-- the events of the tiles, each once
pub record IsJournal (turns : ℕ → List Turn) (ws : List Won) : Type 0 where
  pub events : (w : Won) → In w ws → In (Wins w) (turns w.note.tile)
  pub all : (w : Won) → In (Wins w) (turns w.note.tile) → In w ws

-- of two events that write one site, the earlier in the list has the smaller stamp
abbrev pub WritesRise : MapValue → List Won → Type 0
WritesRise m [] = Unit {0}
WritesRise m (w ∷ ws) = ((v : Won) (s : Site) → In v ws → in_window m (event_site w.note) s ≡ true → in_window m (event_site v.note) s ≡ true → w.note.stamp < v.note.stamp) × WritesRise m ws

-- the cells that an event saw at a site of its window are those that it found, and its tile's own
pub newest_is : (m : MapValue) (own : Site → CellValue) (w : Won) (n : ℕ) (s : Site) → window_site m (event_site w.note) n ≡ Some s
    → newest_at m w.note.tile own (event_site w.note) (accesses_at w) n ≡ newest (own s) (found_cells m w (needs_of m w.note.tile (event_site w.note)) s)
newest_is m own w n s is = λ i. newest (own_cell (is i) own) (seen_is (needs_of m w.note.tile (event_site w.note)) i)
  where
    seen_is : (es : List ℕ) → seen_on m w.note.tile (event_site w.note) (accesses_at w) n es ≡ found_cells m w es s
    seen_is [] = refl
    seen_is (e ∷ es) = λ i. and_cell (found_cell (sites_on m e) (end_at m w.note.tile e) (accesses_at w e) (edge_place_some m e (is i))) (seen_is es i)

module _ (m : MapValue) (meaning : WindowValue → ℕ → WindowValue) (first : GridValue) (turns : ℕ → List Turn) (hist : ℕ → List Hold) (run : IsRun m meaning (atoms_of first) turns hist) where
  -- the events that are done wrote the site
  abbrev pub DoneAt : List Won → Site → Won → Type 0
  DoneAt ps s v = In v ps × (in_window m (event_site v.note) s ≡ true)

  -- the grid is what the events that are done left
  pub record IsLeft (ps : List Won) (g : GridValue) : Type 0 where
    pub grid : IsGrid g
    pub of : IsGridOf m g
    pub atoms : (s : Site) → is_live m s ≡ true → (n : ℕ) × Latest (DoneAt ps s) (λ v. cell_by v s) (cell_value 0 (atoms_of first s)) (cell_value n (site_atom g s.x s.y))

  pub record Split (ps ws : List Won) : Type 0 where
    pub events : (v : Won) → In v ps ⊎ In v ws → IsEvent turns v
    pub all : (v : Won) → IsEvent turns v → In v ps ⊎ In v ws
    pub order : (p v : Won) (s : Site) → In p ps → In v ws → in_window m (event_site p.note) s ≡ true → in_window m (event_site v.note) s ≡ true → p.note.stamp < v.note.stamp

  -- what is done is just what has a smaller stamp, of the events that write a site of the next one's window
  below : (ps ws : List Won) (w v : Won) (s : Site) → Split ps (w ∷ ws) → ((k : Won) (q : Site) → In k ws → in_window m (event_site w.note) q ≡ true → in_window m (event_site k.note) q ≡ true → w.note.stamp < k.note.stamp) → Writes m turns s w → WroteBelow m turns w.note.stamp s v → DoneAt ps s v
  below ps ws w v s sp next i q =
      let here : v ≡ w → DoneAt ps s v = λ e. absurd (omega (arith, q.1, ap (λ (u : Won). u.note.stamp) e)) in
      let later : In v ws → DoneAt ps s v = λ j. absurd (omega (arith, next v s j i.1 q.0.1, q.1)) in
      ⊎_elim (λ j. (j, q.0.1)) (λ r. ⊎_elim here later r) (sp.all v q.0.0)

  above : (ps ws : List Won) (w v : Won) (s : Site) → Split ps (w ∷ ws) → Writes m turns s w → DoneAt ps s v → WroteBelow m turns w.note.stamp s v
  above ps ws w v s sp i q = ((sp.events v (inl q.0), q.1), sp.order v w s q.0 (inl refl) q.1 i.1)

  one_cell : (s : Site) (n : ℕ) (e f : Won) → WroteBelow m turns n s e → WroteBelow m turns n s f → (cell_by e s).stamp ≡ (cell_by f s).stamp → cell_by e s ≡ cell_by f s
  one_cell s n e f a b same = ap (λ u. cell_by u s) (sym (one_writer m meaning (atoms_of first) turns hist run e f s a.0 b.0 same))

  -- the window of the next event, on the flat grid and as its tile saw it
  window_same : (ps ws : List Won) (w : Won) (g : GridValue) (s : Site) → Split ps (w ∷ ws) → ((k : Won) (q : Site) → In k ws → in_window m (event_site w.note) q ≡ true → in_window m (event_site k.note) q ≡ true → w.note.stamp < k.note.stamp) → IsLeft ps g → (i : Writes m turns s w)
      → (p : Past m meaning (atoms_of first) w.note.tile (turns w.note.tile) w) → (newest (cells_of m (atoms_of first) p.before s) (found_cells m w (needs_of m w.note.tile (event_site w.note)) s)).atom ≡ site_atom g s.x s.y
  window_same ps ws w g s sp next l i p =
      ap (λ (c : CellValue). c.atom)
      (same_latest (WroteBelow m turns w.note.stamp s) (DoneAt ps s) (λ v. cell_by v s) (cell_value 0 (atoms_of first s)) (newest (cells_of m (atoms_of first) p.before s) (found_cells m w (needs_of m w.note.tile (event_site w.note)) s)) (cell_value (l.atoms s (live_of m run.plane (event_site w.note) s i.1)).0 (site_atom g s.x s.y))
      (λ v q. below ps ws w v s sp next i q) (λ v q. above ps ws w v s sp i q) (one_cell s w.note.stamp) (coherence m meaning (atoms_of first) turns hist run w s i p) (l.atoms s (live_of m run.plane (event_site w.note) s i.1)).1)

  -- the grid after the event
  abbrev pub after_event : GridValue → Won → GridValue
  after_event g w = event meaning g w.note.x w.note.y w.note.seed

  -- so the event leaves on the flat grid what it left in its tile
  same_atoms : (ps ws : List Won) (w : Won) (g : GridValue) (s : Site) → Split ps (w ∷ ws) → ((k : Won) (q : Site) → In k ws → in_window m (event_site w.note) q ≡ true → in_window m (event_site k.note) q ≡ true → w.note.stamp < k.note.stamp) → IsLeft ps g → IsEvent turns w → in_window m (event_site w.note) s ≡ true
      → site_atom (after_event g w) s.x s.y ≡ w.after s
  same_atoms ps ws w g s sp next l i c =
      let p = past_of m meaning (atoms_of first) turns hist run w i in
      let centre = event_site w.note in
      let own = cells_of m (atoms_of first) p.before in
      let view : p.won.view ≡ window_of g w.note.x w.note.y = view_is m run.plane g l.of centre (newest_at m w.note.tile own centre (accesses_at w)) p.won.view p.won.shows
      (λ n q lt is. ap (λ (x : CellValue). x.atom) (newest_is m own w n q is) ∙ window_same ps ws w g q sp next l (i, run.plane.windows.site centre q n (omega (arith, lt)) is) p) in
      let e = event_in m run.plane g l.of l.grid centre s (meaning (window_of g w.note.x w.note.y) w.note.seed) c in
      e.3 ∙ (ap (λ v. atom_at (meaning v w.note.seed) e.0) (sym view) ∙ sym (p.won.acts e.0 s e.1 e.2))

  left_in_window : (ps ws : List Won) (w : Won) (g : GridValue) (s : Site) → in_window m (event_site w.note) s ≡ true → Split ps (w ∷ ws) → ((k : Won) (q : Site) → In k ws → in_window m (event_site w.note) q ≡ true → in_window m (event_site k.note) q ≡ true → w.note.stamp < k.note.stamp) → IsLeft ps g
      → (n : ℕ) × Latest (DoneAt (w ∷ ps) s) (λ v. cell_by v s) (cell_value 0 (atoms_of first s)) (cell_value n (site_atom (after_event g w) s.x s.y))
  left_in_window ps ws w g s c sp next l =
      let i = sp.events w (inr (inl refl)) in (
        w.note.stamp,
        touched w (inl refl, c) (ap (cell_value w.note.stamp) (same_atoms ps ws w g s sp next l i c))
            (λ v q. ⊎_elim {C = v.note.stamp ≤ w.note.stamp} (λ e. omega (arith, ap (λ (u : Won). u.note.stamp) e)) (λ h. let z = above ps ws w v s sp (i, c) (h, q.1) in omega (arith, z.1)) q.0),
      )

  left_outside : (ps : List Won) (w : Won) (g : GridValue) (s : Site) → is_live m s ≡ true → in_window m (event_site w.note) s ≡ false → IsLeft ps g
      → (n : ℕ) × Latest (DoneAt (w ∷ ps) s) (λ v. cell_by v s) (cell_value 0 (atoms_of first s)) (cell_value n (site_atom (after_event g w) s.x s.y))
  left_outside ps w g s live c l = go old.1
    where
      old : (n : ℕ) × Latest (DoneAt ps s) (λ v. cell_by v s) (cell_value 0 (atoms_of first s)) (cell_value n (site_atom g s.x s.y))
      old = l.atoms s live

      stays : site_atom (after_event g w) s.x s.y ≡ site_atom g s.x s.y
      stays = event_out m run.plane g l.of l.grid (event_site w.note) s (meaning (window_of g w.note.x w.note.y) w.note.seed) live c

      new : (v : Won) → DoneAt (w ∷ ps) s v → DoneAt ps s v
      new v q = (⊎_elim {C = In v ps} (λ e. absurd (cc (ap (λ (u : Won). in_window m (event_site u.note) s) e, q.1, c))) (λ h. h) q.0, q.1)

      go : Latest (DoneAt ps s) (λ v. cell_by v s) (cell_value 0 (atoms_of first s)) (cell_value old.0 (site_atom g s.x s.y)) → (n : ℕ) × Latest (DoneAt (w ∷ ps) s) (λ v. cell_by v s) (cell_value 0 (atoms_of first s)) (cell_value n (site_atom (after_event g w) s.x s.y))
      go (untouched is none) = (old.0, untouched (ap (cell_value old.0) stays ∙ is) (λ v q. none v (new v q)))
      go (touched v i is low) = (old.0, touched v (inr i.0, i.1) (ap (cell_value old.0) stays ∙ is) (λ u q. low u (new u q)))

  left_more : (ps ws : List Won) (w : Won) (g : GridValue) → Split ps (w ∷ ws) → ((k : Won) (q : Site) → In k ws → in_window m (event_site w.note) q ≡ true → in_window m (event_site k.note) q ≡ true → w.note.stamp < k.note.stamp) → IsLeft ps g → IsLeft (w ∷ ps) (after_event g w)
  left_more ps ws w g sp next l = record {
    grid = IsGrid-put g w.note.x w.note.y (meaning (window_of g w.note.x w.note.y) w.note.seed) l.grid;
    of = grid_stays m run.plane g l.of (event_site w.note) (meaning (window_of g w.note.x w.note.y) w.note.seed);
    atoms = λ s live. by s live (in_window m (event_site w.note) s) refl;
  }
    where
      by : (s : Site) → is_live m s ≡ true → (b : Bool) → in_window m (event_site w.note) s ≡ b → (n : ℕ) × Latest (DoneAt (w ∷ ps) s) (λ v. cell_by v s) (cell_value 0 (atoms_of first s)) (cell_value n (site_atom (after_event g w) s.x s.y))
      by s live true c = left_in_window ps ws w g s c sp next l
      by s live false c = left_outside ps w g s live c l

  split_more : (ps ws : List Won) (w : Won) → Split ps (w ∷ ws) → ((k : Won) (q : Site) → In k ws → in_window m (event_site w.note) q ≡ true → in_window m (event_site k.note) q ≡ true → w.note.stamp < k.note.stamp) → Split (w ∷ ps) ws
  split_more ps ws w sp next = record {
    events = λ v q. sp.events v (⊎_elim (λ r. ⊎_elim (λ e. inr (inl e)) (λ j. inl j) r) (λ j. inr (inr j)) q);
    all = λ v i. ⊎_elim (λ j. inl (inr j)) (λ r. ⊎_elim (λ e. inl (inl e)) (λ j. inr j) r) (sp.all v i);
    order = λ p v s i j a b. ⊎_elim {C = p.note.stamp < v.note.stamp} (λ (e : p ≡ w). omega (arith, next v s j (subst (λ u. in_window m (event_site u.note) s ≡ true) e a) b, ap (λ (u : Won). u.note.stamp) e)) (λ h. sp.order p v s h (inr j) a b) i;
  }

  -- where the writers of each site stand by their stamps, one at a time on one grid gives what was written last
  pub replayed : (ps ws : List Won) (g : GridValue) → Split ps ws → WritesRise m ws → IsLeft ps g
      → (qs : List Won) × ((v : Won) → In v qs → IsEvent turns v) × ((v : Won) → IsEvent turns v → In v qs) × IsLeft qs (replay meaning g (notes ws))
  replayed ps [] g sp o l = (ps, λ v i. sp.events v (inl i), λ v i. ⊎_elim (λ j. j) (λ e. absurd e) (sp.all v i), l)
  replayed ps (w ∷ ws) g sp o l = replayed (w ∷ ps) ws (after_event g w) (split_more ps ws w sp o.0) o.1 (left_more ps ws w g sp o.0 l)

  -- journal order is such an order
  strict : (w v : Won) (s : Site) → Writes m turns s w → Writes m turns s v → Precedes w.note v.note → w.note.stamp < v.note.stamp
  strict w v s i j (inl h) = h
  strict w v s i j (inr h) = absurd (omega (arith, h.1, ap (λ (u : Won). u.note.tile) (one_writer m meaning (atoms_of first) turns hist run w v s i j h.0)))

  pub journal_rises : (ws : List Won) → ((v : Won) → In v ws → IsEvent turns v) → InOrder Precedes (notes ws) → WritesRise m ws
  journal_rises [] ev o = tt
  journal_rises (w ∷ ws) ev o = (λ v s i a b. strict w v s (ev w (inl refl), a) (ev v (inr i), b) (o.0 v.note (in_notes v ws i)), journal_rises ws (λ v i. ev v (inr i)) o.1)
