-- Events that write one site stand in one order, and each finds what was written last before it.
use Rattle.std.proofs.Common.{ℕ, ◌≡◌, ◌≢◌, ◌≤◌, ◌<◌, ◌+◌, ◌*◌, List, [], ◌∷◌, refl, sym, ap, subst, arith, ◌⊎◌, inl, inr, ⊎_elim, Bool, true, false, Option, Some, None, ◌∙◌, length}
use Rattle.std.specs.Prelude.{slice_get, if◌then◌else◌}
use Rattle.std.proofs.lemmas.Bool.{cases_eq}
use Rattle.std.proofs.lemmas.Option.{slice_get_within}
use Rattle.bit_field.specs.Atom.{AtomValue, empty_atom}
use Rattle.window_sites.specs.Window.{WindowValue}
use Rattle.tile_map.specs.Plane.{Site, MapValue, is_held, in_window}
use Rattle.tile_map.specs.Edges.{pairs_of, shared_of, needs_of}
use Rattle.tile_map.specs.Laws.{Joins, Shares}
use Rattle.edge_lock.specs.declared.history.Hold.{Hold}
use Rattle.edge_lock.specs.History.{found_value}
use Rattle.list_laws.proofs.Members.{In}
use Rattle.border_cache.specs.Cells.{CellValue, cell_value, cell_of, newest}
use Rattle.border_cache.specs.News.{word_of, is_news, cell_in, found_cell}
use Rattle.border_cache.specs.Windows.{and_cell, edge_place, end_at, sites_on}
use Rattle.tile_core.specs.Values.{event_site}
use Rattle.tile_core.specs.Turns.{Won, Turn, cells_of, accesses_at}
use Rattle.serial_order.proofs.Coherence.{Latest, untouched, touched, Candidates, coherent}
use Rattle.serial_order.proofs.Ground.{end_small, inside, needed, apart, placed, place_is, other_end_is, joined}
use Rattle.serial_order.proofs.Histories.{values, cell_at}
use Rattle.serial_order.proofs.Edge.{Deeds, HasHold, cell_by, Earlier, earlier, differ, latest_is, Wrote}
use Rattle.serial_order.proofs.News.{HasNews, News, quiet, by_own, by_other, news_is}
use Rattle.serial_order.proofs.Deeds.{is_near, covers, at_place, bit_in, bit_clear, event_hold, covered, bits}
use Rattle.serial_order.proofs.Tile.{Played, Did, DidWrite, Past, past, grows, stamps, last_is}
use Rattle.serial_order.proofs.Tile.{cell_by as cell_at_site}
use Rattle.serial_order.proofs.OneEdge.{news_on}
use Rattle.serial_order.proofs.World.{IsRun, run_on, IsEvent, Needs, EventOn, deeds, past_of, hold_of, has_hold, in_hist, of_events, owner_is, live_centre, an_end}

-- the cell that an event found at a site on an edge, where it was news
abbrev pub seen_of : MapValue → Won → ℕ → Site → Option CellValue
seen_of m w e s = found_cell (sites_on m e) (end_at m w.note.tile e) (accesses_at w e) (edge_place m e s)

-- the cells that an event found at a site, edge by edge
abbrev pub found_cells : MapValue → Won → List ℕ → Site → List CellValue
found_cells m w [] s = []
found_cells m w (e ∷ es) s = and_cell (seen_of m w e s) (found_cells m w es s)

pub found_by : (m : MapValue) (w : Won) (es : List ℕ) (s : Site) (d : CellValue) → In d (found_cells m w es s) → (e : ℕ) × In e es × (seen_of m w e s ≡ Some d)
found_by m w [] s d i = absurd i
found_by m w (e ∷ es) s d i = go (seen_of m w e s) refl i (λ j. found_by m w es s d j)
  where
    go : (o : Option CellValue) → seen_of m w e s ≡ o → In d (and_cell o (found_cells m w es s)) → (In d (found_cells m w es s) → (c : ℕ) × In c es × (seen_of m w c s ≡ Some d)) → (c : ℕ) × In c (e ∷ es) × (seen_of m w c s ≡ Some d)
    go None is i rec = let r = rec i in (r.0, inr r.1, r.2)
    go (Some c) is i rec = ⊎_elim (λ q. (e, inl refl, is ∙ ap Some (sym q))) (λ j. let r = rec j in (r.0, inr r.1, r.2)) i

pub by_found : (m : MapValue) (w : Won) (es : List ℕ) (s : Site) (e : ℕ) (d : CellValue) → In e es → seen_of m w e s ≡ Some d → In d (found_cells m w es s)
by_found m w [] s e d i h = absurd i
by_found m w (c ∷ es) s e d i h = go (seen_of m w c s) refl i (λ j. by_found m w es s e d j h)
  where
    go : (o : Option CellValue) → seen_of m w c s ≡ o → In e (c ∷ es) → (In e es → In d (found_cells m w es s)) → In d (and_cell o (found_cells m w es s))
    go None is i rec = ⊎_elim (λ q. absurd (cc (ap (λ x. seen_of m w x s) q, is, h))) (λ j. rec j) i
    go (Some f) is i rec = ⊎_elim (λ q. let same : d ≡ f = cc (ap (λ x. seen_of m w x s) q, is, h) in inl same) (λ j. inr (rec j)) i

-- the parts of a cell that was found
pub record IsFound (m : MapValue) (w : Won) (e : ℕ) (s : Site) (c : CellValue) : Type 0 where
  pub place : ℕ
  pub is_place : edge_place m e s ≡ Some place
  pub fresh : is_news (sites_on m e) (end_at m w.note.tile e) (accesses_at w e) place ≡ true
  pub low : ℕ
  pub high : ℕ
  pub low_found : found_value (accesses_at w e) (1 + 2 * place) ≡ Some low
  pub high_found : found_value (accesses_at w e) (2 + 2 * place) ≡ Some high
  pub cell : cell_of low high ≡ c

pub found_parts : (m : MapValue) (w : Won) (e : ℕ) (s : Site) (c : CellValue) → seen_of m w e s ≡ Some c → IsFound m w e s c
found_parts m w e s c h = go (edge_place m e s) refl h
  where
    words : (k : ℕ) → edge_place m e s ≡ Some k → is_news (sites_on m e) (end_at m w.note.tile e) (accesses_at w e) k ≡ true → (low high : Option ℕ)
        → found_value (accesses_at w e) (1 + 2 * k) ≡ low → found_value (accesses_at w e) (2 + 2 * k) ≡ high → cell_in low high ≡ Some c → IsFound m w e s c
    words k at f None high p q is = absurd (cc (is))
    words k at f (Some low) None p q is = absurd (cc (is))
    words k at f (Some low) (Some high) p q is = record { place = k; is_place = at; fresh = f; low = low; high = high; low_found = p; high_found = q; cell = cc (is) }

    news : (k : ℕ) → edge_place m e s ≡ Some k → (b : Bool) → is_news (sites_on m e) (end_at m w.note.tile e) (accesses_at w e) k ≡ b
        → (if b then cell_in (found_value (accesses_at w e) (1 + 2 * k)) (found_value (accesses_at w e) (2 + 2 * k)) else None) ≡ Some c → IsFound m w e s c
    news k at true f is = words k at f (found_value (accesses_at w e) (1 + 2 * k)) (found_value (accesses_at w e) (2 + 2 * k)) refl refl is
    news k at false f is = absurd (cc (is))

    go : (o : Option ℕ) → edge_place m e s ≡ o → found_cell (sites_on m e) (end_at m w.note.tile e) (accesses_at w e) o ≡ Some c → IsFound m w e s c
    go None at is = absurd (cc (is))
    go (Some k) at is = news k at (is_news (sites_on m e) (end_at m w.note.tile e) (accesses_at w e) k) refl is

pub parts_found : (m : MapValue) (w : Won) (e : ℕ) (s : Site) (c : CellValue) → IsFound m w e s c → seen_of m w e s ≡ Some c
parts_found m w e s c f =
    ap (found_cell (sites_on m e) (end_at m w.note.tile e) (accesses_at w e)) f.is_place
    ∙ (λ i. if f.fresh i then cell_in (f.low_found i) (f.high_found i) else None) ∙ ap Some f.cell

-- w is an event that wrote the site
abbrev pub Writes : MapValue → (ℕ → List Turn) → Site → Won → Type 0
Writes m turns s w = IsEvent turns w × (in_window m (event_site w.note) s ≡ true)

-- the events before a stamp that wrote the site
abbrev pub WroteBelow : MapValue → (ℕ → List Turn) → ℕ → Site → Won → Type 0
WroteBelow m turns n s v = Writes m turns s v × (v.note.stamp < n)

module _ (m : MapValue) (meaning : WindowValue → ℕ → WindowValue) (start : Site → AtomValue) (turns : ℕ → List Turn) (hist : ℕ → List Hold) (run : IsRun m meaning start turns hist) where
  -- what each event did to the news words
  pub news : (e : ℕ) → HasNews (deeds m turns e) (word_of (sites_on m e)) bit_in (hist e)
  news e = news_on m meaning start turns e (hist e) (run_on m meaning start turns hist run e)

  -- the edge of two events of different tiles that write one site
  pub record Between (w v : Won) (s : Site) : Type 0 where
    pub edge : ℕ
    pub joins : Joins m edge w.note.tile v.note.tile
    pub first : Needs m w edge
    pub second : Needs m v edge
    pub shares : Shares m edge s

  swap_joins : (e t u : ℕ) → Joins m e t u → Joins m e u t
  swap_joins e t u j = ⊎_elim (λ p. inr p) (λ p. inl p) j

  pub held : (w : Won) (s : Site) → Writes m turns s w → is_held m w.note.tile s ≡ true
  held w s i = subst (λ t. is_held m t s ≡ true) (owner_is m meaning start turns hist run w i.0) (run.plane.owners.window (event_site w.note) s (live_centre m meaning start turns hist run w i.0) i.1)

  needs_it : (w v : Won) (s : Site) (e : ℕ) → w.note.tile ≢ v.note.tile → Writes m turns s w → Writes m turns s v → Joins m e w.note.tile v.note.tile → Needs m w e
  needs_it w v s e ne i j g =
      let o = owner_is m meaning start turns hist run w i.0 in
      subst (λ t. In e (needs_of m t (event_site w.note))) o
      (needed m run.plane (event_site w.note) s v.note.tile e (live_centre m meaning start turns hist run w i.0) i.1 (λ q. ne (sym o ∙ q)) (held v s j) (subst (λ t. Joins m e t v.note.tile) (sym o) g))

  -- the heart: both need the edge of their tiles, which shares the site
  pub between : (w v : Won) (s : Site) → w.note.tile ≢ v.note.tile → Writes m turns s w → Writes m turns s v → Between w v s
  between w v s ne i j =
      let g = run.plane.edges.meet w.note.tile v.note.tile s ne (held w s i) (held v s j) in
      record {
        edge = g.0;
        joins = g.2;
        first = needs_it w v s g.0 ne i j g.2;
        second = needs_it v w s g.0 (λ q. ne (sym q)) j i (swap_joins g.0 w.note.tile v.note.tile g.2);
        shares = g.3;
      }

  pub same_tile : (w v : Won) → IsEvent turns w → IsEvent turns v → w.note.tile ≡ v.note.tile → w.note.stamp ≡ v.note.stamp → v ≡ w
  same_tile w v i j t same =
      let p = past_of m meaning start turns hist run w i in
      ⊎_elim (λ e. e)
      (λ q. ⊎_elim (λ k. absurd (omega (arith, same, grows m meaning start w.note.tile p.before w p.won, stamps m meaning start w.note.tile p.before p.played v k))) (λ (lt : w.note.stamp < v.note.stamp). absurd (omega (arith, lt, same))) q)
      (p.rest v (subst (λ u. Did (turns u) v) (sym t) j))

  other_tile : (w v : Won) (s : Site) → w.note.tile ≢ v.note.tile → Writes m turns s w → Writes m turns s v → w.note.stamp ≡ v.note.stamp → ⊥
  other_tile w v s ne i j same =
      let b = between w v s ne i j in
      let x : EventOn m turns b.edge = record { won = w; did = i.0; needs = b.first } in
      let y : EventOn m turns b.edge = record { won = v; did = j.0; needs = b.second } in
      let d = differ (deeds m turns b.edge) (hist b.edge) (run.histories b.edge) (of_events m meaning start turns hist run b.edge) x y (has_hold m meaning start turns hist run b.edge x) (has_hold m meaning start turns hist run b.edge y) same in
      other_end_is m b.edge w.note.tile v.note.tile (apart m run.plane b.edge) b.joins (sym d.1.at_end ∙ d.2.at_end)

  -- of the events that write one site, a stamp names one
  pub one_writer : (w v : Won) (s : Site) → Writes m turns s w → Writes m turns s v → w.note.stamp ≡ v.note.stamp → v ≡ w
  one_writer w v s i j same = ⊎_elim (λ t. same_tile w v i.0 j.0 t same) (λ ne. absurd (other_tile w v s ne i j same)) (cases_eq w.note.tile v.note.tile)

  pub of_tile : (t : ℕ) (v : Won) (xs : List Turn) → Played m meaning start t xs → Did xs v → v.note.tile ≡ t
  of_tile t v xs p i = (past m meaning start t xs p v i).won.tile

  pub is_event : (t : ℕ) (v : Won) → Did (turns t) v → IsEvent turns v
  is_event t v i = subst (λ u. Did (turns u) v) (sym (of_tile t v (turns t) (run.played t) i)) i

  -- a tile's own cell before an event of its own
  own_known : (w : Won) (p : Past m meaning start w.note.tile (turns w.note.tile) w) (s : Site)
      → (cells_of m start p.before s ≡ cell_value 0 (start s)) ⊎ ((v : Won) × WroteBelow m turns w.note.stamp s v × (cells_of m start p.before s ≡ cell_at_site v s))
  own_known w p s = go (last_is m meaning start w.note.tile p.before p.played s)
    where
      go : Latest (DidWrite m p.before s) (λ v. cell_at_site v s) (cell_value 0 (start s)) (cells_of m start p.before s)
          → (cells_of m start p.before s ≡ cell_value 0 (start s)) ⊎ ((v : Won) × WroteBelow m turns w.note.stamp s v × (cells_of m start p.before s ≡ cell_at_site v s))
      go (untouched is none) = inl is
      go (touched v i is low) = inr (v, ((is_event w.note.tile v (p.part v i.0), i.1), omega (arith, stamps m meaning start w.note.tile p.before p.played v i.0, grows m meaning start w.note.tile p.before w p.won)), is)

  own_covers : (w : Won) (p : Past m meaning start w.note.tile (turns w.note.tile) w) (s : Site) (v : Won) → Did p.before v → in_window m (event_site v.note) s ≡ true → (cell_at_site v s).stamp ≤ (cells_of m start p.before s).stamp
  own_covers w p s v i c = go (last_is m meaning start w.note.tile p.before p.played s)
    where
      go : Latest (DidWrite m p.before s) (λ v. cell_at_site v s) (cell_value 0 (start s)) (cells_of m start p.before s) → (cell_at_site v s).stamp ≤ (cells_of m start p.before s).stamp
      go (untouched is none) = absurd (none v (i, c))
      go (touched u j is low) = low v (i, c)

  pub record IsSeen (w : Won) (s : Site) (e : ℕ) (c : CellValue) : Type 0 where
    pub known : (c.stamp ≡ 0) ⊎ ((v : Won) × WroteBelow m turns w.note.stamp s v × (c ≡ cell_at_site v s))
    pub covers_all : (v : Won) → WroteBelow m turns w.note.stamp s v → Needs m v e → (cell_at_site v s).stamp ≤ c.stamp

  -- the cell that an event finds at an edge
  seen_known : (w : Won) (s : Site) (e : ℕ) (c : CellValue) → Writes m turns s w → Needs m w e → IsFound m w e s c → IsSeen w s e c
  seen_known w s e c i n f = go (latest_is d r.older r.history r.of f.place (slice_get_within (shared_of m e) f.place s at))
    where
      x : EventOn m turns e
      x = record { won = w; did = i.0; needs = n }

      d : Deeds (EventOn m turns e)
      d = deeds m turns e

      at : slice_get (shared_of m e) f.place ≡ Some s
      at = placed m run.plane e f.place s f.is_place

      r : Earlier (deeds m turns e) (hist e) (w.hold e) x
      r = earlier (deeds m turns e) (hist e) (run.histories e) (of_events m meaning start turns hist run e) (w.hold e) (in_hist m meaning start turns hist run e x) x (hold_of m meaning start turns hist run e x)

      near : (v : Won) → in_window m (event_site v.note) s ≡ true → covers m e (event_site v.note) f.place ≡ true
      near v q = subst (λ o. is_near m (event_site v.note) o ≡ true) (sym at) q

      far : (v : Won) → covers m e (event_site v.note) f.place ≡ true → in_window m (event_site v.note) s ≡ true
      far v q = subst (λ o. is_near m (event_site v.note) o ≡ true) at q

      is : cell_at (values r.older) f.place ≡ c
      is = (λ z. cell_of (sym (r.may.finds (1 + 2 * f.place) f.low f.low_found) z) (sym (r.may.finds (2 + 2 * f.place) f.high f.high_found) z)) ∙ f.cell

      wrote : (y : EventOn m turns e) → HasHold d r.older y → d.covers y f.place ≡ true → WroteBelow m turns w.note.stamp s y.won
      wrote y q cov = ((y.did, far y.won cov), r.lower y q)

      by : (y : EventOn m turns e) → cell_by d y f.place ≡ cell_at_site y.won s
      by y = λ z. cell_value y.won.note.stamp (at_place empty_atom y.won.after (at z))

      all : Latest (λ y. HasHold d r.older y × (d.covers y f.place ≡ true)) (λ y. cell_by d y f.place) (cell_of 0 0) (cell_at (values r.older) f.place) → (v : Won) → WroteBelow m turns w.note.stamp s v → Needs m v e → (cell_at_site v s).stamp ≤ c.stamp
      all (untouched nil none) v q n' =
          let y : EventOn m turns e = record { won = v; did = q.0.0; needs = n' } in
          absurd (none y (r.rest y (has_hold m meaning start turns hist run e y) q.1, near v q.0.1))
      all (touched z j same low) v q n' =
          let y : EventOn m turns e = record { won = v; did = q.0.0; needs = n' } in
          let l = low y (r.rest y (has_hold m meaning start turns hist run e y) q.1, near v q.0.1) in
          omega (arith, l, ap (λ (x : CellValue). x.stamp) is, ap (λ (x : CellValue). x.stamp) (by y))

      one : Latest (λ y. HasHold d r.older y × (d.covers y f.place ≡ true)) (λ y. cell_by d y f.place) (cell_of 0 0) (cell_at (values r.older) f.place) → (c.stamp ≡ 0) ⊎ ((v : Won) × WroteBelow m turns w.note.stamp s v × (c ≡ cell_at_site v s))
      one (untouched nil none) = inl (sym (ap (λ (x : CellValue). x.stamp) is) ∙ ap (λ (x : CellValue). x.stamp) nil)
      one (touched z j same low) = inr (z.won, wrote z j.0 j.1, sym is ∙ (same ∙ by z))

      go : Latest (λ y. HasHold d r.older y × (d.covers y f.place ≡ true)) (λ y. cell_by d y f.place) (cell_of 0 0) (cell_at (values r.older) f.place) → IsSeen w s e c
      go l = record { known = one l; covers_all = all l }

  -- where the bit is clear, nothing at the edge is newer than the tile's own cell
  stale : (w v : Won) (s : Site) (e k : ℕ) (p : Past m meaning start w.note.tile (turns w.note.tile) w) → Writes m turns s w → Needs m w e → slice_get (shared_of m e) k ≡ Some s → is_news (sites_on m e) (end_at m w.note.tile e) (accesses_at w e) k ≡ false
      → WroteBelow m turns w.note.stamp s v → Needs m v e → (cell_at_site v s).stamp ≤ (cells_of m start p.before s).stamp
  stale w v s e k p i n at old q n' = go (news_is d (word_of (sites_on m e)) bit_in bit_clear r.older r.history r.of (λ g j. news e g (r.within g j)) (end_at m w.note.tile e) k (end_small m e w.note.tile) (slice_get_within (shared_of m e) k s at))
    where
      x : EventOn m turns e
      x = record { won = w; did = i.0; needs = n }

      y : EventOn m turns e
      y = record { won = v; did = q.0.0; needs = n' }

      d : Deeds (EventOn m turns e)
      d = deeds m turns e

      r : Earlier (deeds m turns e) (hist e) (w.hold e) x
      r = earlier (deeds m turns e) (hist e) (run.histories e) (of_events m meaning start turns hist run e) (w.hold e) (in_hist m meaning start turns hist run e x) x (hold_of m meaning start turns hist run e x)

      b : (z : ℕ) × (found_value (accesses_at w e) (word_of (sites_on m e) (end_at m w.note.tile e) k) ≡ Some z) × (bit_in z k ≡ is_news (sites_on m e) (end_at m w.note.tile e) (accesses_at w e) k)
      b = bits m run.plane meaning start w.note.tile p.before w p.won e n k (subst (λ o. is_near m (event_site w.note) o ≡ true) (sym at) i.1)

      down : bit_in (values r.older (word_of (sites_on m e) (end_at m w.note.tile e) k)) k ≡ false
      down = ap (λ z. bit_in z k) (sym (r.may.finds (word_of (sites_on m e) (end_at m w.note.tile e) k) b.0 b.1)) ∙ (b.2 ∙ old)

      wrote : Wrote d r.older k y
      wrote = (r.rest y (has_hold m meaning start turns hist run e y) q.1, subst (λ o. is_near m (event_site v.note) o ≡ true) (sym at) q.0.1)

      far : (z : Won) → covers m e (event_site z.note) k ≡ true → in_window m (event_site z.note) s ≡ true
      far z c = subst (λ o. is_near m (event_site z.note) o ≡ true) at c

      -- an event at the same end is of the same tile
      same_end : (z : EventOn m turns e) → end_at m z.won.note.tile e ≡ end_at m w.note.tile e → w.note.tile ≡ z.won.note.tile
      same_end z is = ⊎_elim (λ t. t) (λ ne. absurd (other_end_is m e w.note.tile z.won.note.tile (apart m run.plane e) (joined m e w.note.tile z.won.note.tile ne (an_end m meaning start turns hist run e x) (an_end m meaning start turns hist run e z)) (sym is))) (cases_eq w.note.tile z.won.note.tile)

      mine : (z : EventOn m turns e) → HasHold d r.older z → d.covers z k ≡ true → end_at m z.won.note.tile e ≡ end_at m w.note.tile e → z.won.note.stamp ≤ (cells_of m start p.before s).stamp
      mine z hz c is =
          let lower : z.won.note.stamp < w.note.stamp = r.lower z hz in
          ⊎_elim {C = z.won.note.stamp ≤ (cells_of m start p.before s).stamp} (λ (eq : z.won ≡ w). absurd (omega (arith, lower, ap (λ (u : Won). u.note.stamp) eq)))
          (λ g. ⊎_elim {C = z.won.note.stamp ≤ (cells_of m start p.before s).stamp} (λ bf. own_covers w p s z.won bf (far z.won c)) (λ (lt : w.note.stamp < z.won.note.stamp). absurd (omega (arith, lower, lt))) g)
          (p.rest z.won (subst (λ u. Did (turns u) z.won) (sym (same_end z is)) z.did))

      go : News d (word_of (sites_on m e)) bit_in r.older (end_at m w.note.tile e) k → (cell_at_site v s).stamp ≤ (cells_of m start p.before s).stamp
      go (quiet none is) = absurd (none y wrote)
      go (by_own z wz same top is) = omega (arith, top y wrote, mine z wz.0 wz.1 same)
      go (by_other z wz ne top is) = absurd (cc (is, down))

  -- what an event takes for the newest cell at a site of its window is what was written last before its stamp
  pub candidates : (w : Won) (s : Site) (i : Writes m turns s w) (p : Past m meaning start w.note.tile (turns w.note.tile) w)
      → Candidates (WroteBelow m turns w.note.stamp s) (λ v. cell_at_site v s) (cell_value 0 (start s)) (cells_of m start p.before s) (found_cells m w (needs_of m w.note.tile (event_site w.note)) s)
  candidates w s i p = record {
    fresh = refl;
    own_known = own_known w p s;
    found_known = λ d q.
        let r = found_by m w (needs_of m w.note.tile (event_site w.note)) s d q in
        (seen_known w s r.0 d i r.1 (found_parts m w r.0 s d r.2)).known;
    covered = λ v q. ⊎_elim (same v q) (other v q) (cases_eq w.note.tile v.note.tile);
    positive = λ v q. let o = past_of m meaning start turns hist run v q.0.0 in omega (arith, grows m meaning start v.note.tile o.before v o.won);
  }
    where
      same : (v : Won) → WroteBelow m turns w.note.stamp s v → w.note.tile ≡ v.note.tile → ((cell_at_site v s).stamp ≤ (cells_of m start p.before s).stamp) ⊎ ((d : CellValue) × In d (found_cells m w (needs_of m w.note.tile (event_site w.note)) s) × ((cell_at_site v s).stamp ≤ d.stamp))
      same v q t =
          inl (⊎_elim (λ (e : v ≡ w). absurd (omega (arith, q.1, ap (λ (u : Won). u.note.stamp) e)))
          (λ g. ⊎_elim (λ b. own_covers w p s v b q.0.1) (λ (lt : w.note.stamp < v.note.stamp). absurd (omega (arith, lt, q.1))) g)
          (p.rest v (subst (λ u. Did (turns u) v) (sym t) q.0.0)))

      other : (v : Won) → WroteBelow m turns w.note.stamp s v → w.note.tile ≢ v.note.tile → ((cell_at_site v s).stamp ≤ (cells_of m start p.before s).stamp) ⊎ ((d : CellValue) × In d (found_cells m w (needs_of m w.note.tile (event_site w.note)) s) × ((cell_at_site v s).stamp ≤ d.stamp))
      other v q ne = pick (is_news (sites_on m b.edge) (end_at m w.note.tile b.edge) (accesses_at w b.edge) b.shares.0) refl
        where
          b : Between w v s
          b = between w v s ne i q.0

          lt : b.edge < length (pairs_of m)
          lt = inside m run.plane w.note.tile (event_site w.note) b.edge b.first

          place : edge_place m b.edge s ≡ Some b.shares.0
          place = place_is m run.plane b.edge b.shares.0 s lt b.shares.1

          near : covers m b.edge (event_site w.note) b.shares.0 ≡ true
          near = subst (λ o. is_near m (event_site w.note) o ≡ true) (sym b.shares.1) i.1

          pick : (f : Bool) → is_news (sites_on m b.edge) (end_at m w.note.tile b.edge) (accesses_at w b.edge) b.shares.0 ≡ f
              → ((cell_at_site v s).stamp ≤ (cells_of m start p.before s).stamp) ⊎ ((d : CellValue) × In d (found_cells m w (needs_of m w.note.tile (event_site w.note)) s) × ((cell_at_site v s).stamp ≤ d.stamp))
          pick true f =
              let h = event_hold m run.plane meaning start w.note.tile p.before w p.won b.edge b.first in
              let g = h.finds b.shares.0 (covered m run.plane meaning start w.note.tile p.before w p.won b.edge b.first b.shares.0 near) f in
              let parts : IsFound m w b.edge s (cell_of g.0 g.1) = record { place = b.shares.0; is_place = place; fresh = f; low = g.0; high = g.1; low_found = g.2; high_found = g.3; cell = refl } in
              inr (cell_of g.0 g.1, by_found m w (needs_of m w.note.tile (event_site w.note)) s b.edge (cell_of g.0 g.1) b.first (parts_found m w b.edge s (cell_of g.0 g.1) parts), (seen_known w s b.edge (cell_of g.0 g.1) i b.first parts).covers_all v q b.second)
          pick false f = inl (stale w v s b.edge b.shares.0 p i b.first b.shares.1 f q b.second)

  pub coherence : (w : Won) (s : Site) (i : Writes m turns s w) (p : Past m meaning start w.note.tile (turns w.note.tile) w)
      → Latest (WroteBelow m turns w.note.stamp s) (λ v. cell_at_site v s) (cell_value 0 (start s)) (newest (cells_of m start p.before s) (found_cells m w (needs_of m w.note.tile (event_site w.note)) s))
  coherence w s i p = coherent (WroteBelow m turns w.note.stamp s) (λ v. cell_at_site v s) (cell_value 0 (start s)) (cells_of m start p.before s) (found_cells m w (needs_of m w.note.tile (event_site w.note)) s) (candidates w s i p)
