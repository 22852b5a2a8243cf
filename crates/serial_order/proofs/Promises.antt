-- All that holds of tiles that are over, in terms of the plan, the journal and the settled grid.
use Rattle.std.proofs.Common.{ℕ, zero, suc, ◌≡◌, ◌≤◌, ◌<◌, ◌+◌, ◌*◌, ◌/◌, ◌%◌, List, [], ◌∷◌, refl, sym, ap, subst, arith, ◌⊎◌, inl, inr, ⊎_elim, Bool, true, false, Option, Some, None, ◌∙◌, ◌==◌, length, get_or, All, mod-lt, div-add-mod'}
use Rattle.std.specs.Prelude.{slice_get, slice_index_or, if◌then◌else◌}
use Rattle.std.specs.Int.{bit_at}
use Rattle.std.specs.List.{Any, range_with_len}
use Rattle.std.proofs.lemmas.Bool.Decides.{nat_tests}
use Rattle.std.proofs.lemmas.List.FromFn.{fill_by_all}
use Rattle.list_laws.proofs.Numbers.{div_lt}
use Rattle.bit_field.specs.Atom.{empty_atom}
use Rattle.tile_map.specs.Plane.{Site, MapValue, site, tiles_of, is_live, is_held, owner_of, in_window}
use Rattle.tile_map.specs.Edges.{pairs_of, pair_at, low_end, is_in_pair, edges_at, needs_of, is_needed}
use Rattle.tile_map.specs.Laws.{Joins}
use Rattle.cell_grid.specs.declared.record.Record.{Record}
use Rattle.cell_grid.specs.Grid.{GridValue, IsGrid, site_atom}
use Rattle.cell_grid.specs.Records.{Precedes, replay}
use Rattle.draw_stream.specs.Plans.{attempts}
use Rattle.edge_lock.proofs.HistoryLaws.{finds_at}
use Rattle.list_laws.proofs.Members.{In, InOrder, in_filter, in_range, get_in, order-filter, order-range, contains_in, in_contains, in_all}
use Rattle.event_journal.specs.declared.abandoned.Abandoned.{Abandoned}
use Rattle.event_journal.specs.Accounts.{IsExcusedBy, AreExcused, Needs}
use Rattle.border_cache.specs.Cells.{CellValue, cell_of}
use Rattle.border_cache.specs.News.{word_of}
use Rattle.border_cache.specs.Windows.{end_at, sites_on}
use Rattle.plane_grid.specs.PlaneGrids.{IsGridOf}
use Rattle.plane_grid.proofs.OneGrid.{one_grid}
use Rattle.border_cache.specs.Copies.{held_cell}
use Rattle.tile_core.specs.Values.{atoms_of, TileValue, event_site, given_up_site}
use Rattle.tile_core.specs.Turns.{Won, Lost, Wins, Loses, before}
use Rattle.serial_order.specs.Scene.{Scene, IsOver, registers_at, history_at}
use Rattle.serial_order.specs.Settled.{settled_cell}
use Rattle.serial_order.specs.Order.{records, abandoned, IsReplayed, StampsAreSmall, TiesAreApart, Leads, arrives, goes, HasNoNews, HasOneOrder, FindsWhatStands}
use Rattle.serial_order.proofs.Lists.{snocs, none_past}
use Rattle.serial_order.proofs.Histories.{values, values_back}
use Rattle.serial_order.proofs.Ground.{IsEnd, inside}
use Rattle.serial_order.proofs.World.{before_in}
use Rattle.serial_order.proofs.Order.{one_writer}
use Rattle.serial_order.proofs.Replay.{notes}
use Rattle.serial_order.proofs.LastCells.{HasEdges, grid_is_replay, replay_fits}
use Rattle.serial_order.proofs.Stamps.{Stamped, stamped, whole_cut, small}
use Rattle.serial_order.proofs.Excuses.{IsExcused, excused}
use Rattle.serial_order.proofs.NoNews.{no_news}
use Rattle.serial_order.proofs.TileLog as log
use Rattle.serial_order.proofs.Stamping.{is_stamped}
use Rattle.serial_order.proofs.Whole.{turns, tile_told, tile_of as tile_with, hist, run, refused, laws}
use Rattle.serial_order.proofs.Journal.{played, record_of, of_record, abandoned_of_turn, turn_abandoned, ordered, events, unworn, none_is_worn, are_logs, all_logs, accounted}

pub any_from : {X : Type 0} (P : X → Type 0) (xs : List X) (x : X) → In x xs → P x → Any P xs
any_from P xs x i p = let g = get_in xs x x i in (g.0, x, g.1, g.2, p)

any_of : {X : Type 0} (P : X → Type 0) (xs : List X) → Any P xs → (x : X) × In x xs × P x
any_of P xs a = (a.1, contains_in xs a.1 (a.0, a.2, a.3), a.4)

-- an edge before another among edges that rise
before_less : (e d : ℕ) (es : List ℕ) → InOrder (λ x y. x < y) es → In d es → In e (before d es) → e < d
before_less e d [] o i j = absurd i
before_less e d (c ∷ es) o i j = go (c == d) refl j (λ there q. before_less e d es o.1 there q)
  where
    go : (b : Bool) → (c == d) ≡ b → In e (if b then [] else c ∷ before d es) → (In d es → In e (before d es) → e < d) → e < d
    go true is k rec = absurd k
    go false is k rec =
        let there : In d es = ⊎_elim {C = In d es} (λ q. absurd (grind (arith, nat_tests, is, q))) (λ q. q) i in
        ⊎_elim {C = e < d} (λ q. let lt = o.0 d there in omega (arith, q, lt)) (λ q. rec there q) k

needs_rise : (m : MapValue) (t : ℕ) (c : Site) → InOrder (λ x y. x < y) (needs_of m t c)
needs_rise m t c = order-filter (λ x y. x < y) (is_needed m t c) (range_with_len 0 (length (pairs_of m))) (order-range 0 (length (pairs_of m)))

module _ (s : Scene) (o : IsOver s) where
  stamps_right : Stamped s.map [] (records s)
  stamps_right = subst (Stamped s.map []) (events s o).1 (stamped s.map s.meaning (atoms_of s.start) (turns s o) (hist s o) (run s o) [] (events s o).0 (whole_cut s.map s.meaning (atoms_of s.start) (turns s o) (hist s o) (run s o) (events s o).0 (events s o).2) (subst (InOrder Precedes) (sym (events s o).1) (ordered s o)))

  pub stamps_small : StampsAreSmall (records s)
  stamps_small = in_all (λ (r : Record). r.stamp ≤ length (records s)) (records s) (λ n i. let r = small s.map [] (records s) (λ k j. absurd j) stamps_right n i in omega (arith, r))

  in_notes : InOrder Precedes (notes (events s o).0)
  in_notes = subst (InOrder Precedes) (sym (events s o).1) (ordered s o)

  registers_same : registers_at s.edges ≡ (λ e. values (hist s o e))
  registers_same = λ i e r. sym (values_back (history_at s.edges e).holds (snocs (history_at s.edges e).holds) r) i

  -- the edges of a tile are those of which it is an end
  all_edges : (t : ℕ) (u : Site) → HasEdges s.map t (edges_at s.map t) u
  all_edges t u e lt end shares = in_filter (λ d. is_in_pair t (slice_index_or (pairs_of s.map) d (tiles_of s.map, tiles_of s.map + 1))) (range_with_len 0 (length (pairs_of s.map))) e (in_range 0 (length (pairs_of s.map)) e (omega arith) (omega (arith, lt))) (is end)
    where
      is : IsEnd s.map t e → is_in_pair t (pair_at s.map e) ≡ true
      is (inl a) = grind (arith, nat_tests, a)
      is (inr a) = grind (arith, nat_tests, a)

  pub replayed : IsReplayed s
  replayed g set =
      let fit = replay_fits s.map s.meaning s.start (turns s o) (hist s o) (run s o) o.grid o.fits (events s o).0 (events s o).2 in_notes in
      let goal = one_grid s.map g (replay s.meaning s.start (notes (events s o).0)) set.grid fit.0 set.fits fit.1 same in
      goal ∙ ap (replay s.meaning s.start) (events s o).1
    where
      same : (u : Site) → is_live s.map u ≡ true → site_atom g u.x u.y ≡ site_atom (replay s.meaning s.start (notes (events s o).0)) u.x u.y
      same u live = go (slice_get s.tiles t) refl
        where
          t : ℕ
          t = owner_of s.map u

          held : is_held s.map (owner_of s.map u) u ≡ true
          held = (laws s o).owners.holder u live

          inside' : owner_of s.map u < length s.tiles
          inside' = omega (arith, Rattle.serial_order.proofs.Ground.owner_inside s.map (laws s o) u live, o.count)

          go : (p : Option TileValue) → slice_get s.tiles (owner_of s.map u) ≡ p → site_atom g u.x u.y ≡ site_atom (replay s.meaning s.start (notes (events s o).0)) u.x u.y
          go None is = absurd (let le = none_past s.tiles (owner_of s.map u) is in omega (arith, le, inside'))
          go (Some tile) is =
              let told = tile_told s o (owner_of s.map u) tile is in
              set.atoms u tile live is
              ∙ (ap (λ r. (settled_cell s.map r (held_cell tile.cache) (edges_at s.map (owner_of s.map u)) u).atom) registers_same
              ∙ (ap (λ c. (Rattle.border_cache.specs.Cells.newest c (Rattle.serial_order.specs.Settled.edge_cells s.map (λ e. values (hist s o e)) (edges_at s.map (owner_of s.map u)) u)).atom) (told.cells u held)
              ∙ grid_is_replay s.map s.meaning s.start (turns s o) (hist s o) (run s o) o.grid o.fits (events s o).0 (events s o).2 in_notes (owner_of s.map u) (edges_at s.map (owner_of s.map u)) u held live (all_edges (owner_of s.map u) u)))

  -- two records of one stamp have no site in common
  pub ties_apart : TiesAreApart s.map (records s)
  ties_apart n k u i j e a b =
      let p = record_of s o n (contains_in (records s) n i) in
      let q = record_of s o k (contains_in (records s) k j) in
      let did : (n : Record) (w : Won) → In (Wins w) (turns s o n.tile) → n ≡ w.note → In (Wins w) (turns s o w.note.tile) = λ n w d is. subst (λ t. In (Wins w) (turns s o t)) (ap (λ (z : Record). z.tile) is) d in
      let same = one_writer s.map s.meaning (atoms_of s.start) (turns s o) (hist s o) (run s o) p.0 q.0 u (did n p.0 p.1 p.2, subst (λ (z : Record). in_window s.map (event_site z) u ≡ true) p.2 a) (did k q.0 q.1 q.2, subst (λ (z : Record). in_window s.map (event_site z) u ≡ true) q.2 b)
      (omega (arith, e, ap (λ (z : Record). z.stamp) p.2, ap (λ (z : Record). z.stamp) q.2)) in
      p.2 ∙ (ap (λ (z : Won). z.note) (sym same) ∙ sym q.2)

  -- a site of an attempt is that of its centre, so the attempt needs the same edges
  won_needs : (t e : ℕ) (w : Won) → In (Wins w) (turns s o t) → In e (needs_of s.map t (event_site w.note)) → Needs s.map s.plan t w.note.attempt e
  won_needs t e w d i =
      let p = tile_with s o t (Wins w) d in
      let a = log.won_attempt s.map s.meaning (atoms_of s.start) t (attempts s.plan t) (turns s o t) (played s o t) (tile_told s o t p.0 p.1).made w d in
      (a.attempt, a.is, in_contains _ e (subst (λ c. In e (needs_of s.map t c)) a.site_is i))

  lost_needs : (t e : ℕ) (l : Lost) → In (Loses l) (turns s o t) → In e (needs_of s.map t (given_up_site l.gone)) → Needs s.map s.plan t l.gone.attempt e
  lost_needs t e l d i =
      let p = tile_with s o t (Loses l) d in
      let a = (log.lost_attempt s.map s.meaning (atoms_of s.start) t (attempts s.plan t) (turns s o t) (played s o t) (tile_told s o t p.0 p.1).made l d).1 in
      (a.attempt, a.is, in_contains _ e (subst (λ c. In e (needs_of s.map t c)) a.site_is i))

  excused_turn : (t : ℕ) (l : Lost) → In (Loses l) (turns s o t) → t ≡ l.gone.tile → IsExcusedBy s.map s.plan (records s) (abandoned s) l.gone
  excused_turn t l i at = record {
    needs = subst (λ u. Needs s.map s.plan u l.gone.attempt l.gone.edge) at (lost_needs t l.gone.edge l i x.needs);
    ends = subst (λ u. Joins s.map l.gone.edge u l.gone.holder) at x.joins;
    held = ⊎_elim (λ h. subst (λ n. Needs s.map s.plan l.gone.holder n l.gone.edge) h.2 (won_needs l.gone.holder l.gone.edge h.0 h.1 h.3))
        (λ h. subst (λ n. Needs s.map s.plan l.gone.holder n l.gone.edge) h.2 (lost_needs l.gone.holder l.gone.edge h.0 h.1 (before_in l.gone.edge h.0.gone.edge (needs_of s.map l.gone.holder (given_up_site h.0.gone)) h.3))) x.held;
    owed = ⊎_elim
        (λ (h : (w : Won) × In (Wins w) (turns s o l.gone.holder) × (w.note.attempt ≡ l.gone.holder_attempt) × In l.gone.edge (needs_of s.map l.gone.holder (event_site w.note))).
        inl (any_from (λ (r : Record). (r.tile ≡ l.gone.holder) × (r.attempt ≡ l.gone.holder_attempt)) (records s) h.0.note (of_record s o l.gone.holder h.0 h.1) (log.own_record s.map s.meaning (atoms_of s.start) l.gone.holder (turns s o l.gone.holder) (played s o l.gone.holder) h.0.note (log.records_in h.0 (turns s o l.gone.holder) h.1), h.2)))
        (λ (h : (k : Lost) × In (Loses k) (turns s o l.gone.holder) × (k.gone.attempt ≡ l.gone.holder_attempt) × In l.gone.edge (before k.gone.edge (needs_of s.map l.gone.holder (given_up_site k.gone)))).
        inr (any_from (λ (k : Abandoned). (k.tile ≡ l.gone.holder) × (k.attempt ≡ l.gone.holder_attempt) × (l.gone.edge < k.edge)) (abandoned s) h.0.gone (turn_abandoned s o l.gone.holder h.0 h.1) (
          log.lost_tile s.map s.meaning (atoms_of s.start) l.gone.holder h.0 (turns s o l.gone.holder) (played s o l.gone.holder) h.1,
          h.2,
          before_less l.gone.edge h.0.gone.edge (needs_of s.map l.gone.holder (given_up_site h.0.gone)) (needs_rise s.map l.gone.holder (given_up_site h.0.gone)) (excuse l.gone.holder h.0 h.1).needs h.3,
        ))) x.held;
    after = λ n k a b lt le.
        let p = record_of s o n (contains_in (records s) n a.0) in
        let q = record_of s o k (contains_in (records s) k b.0) in
        let z = x.after p.0 q.0 (subst (λ u. In (Wins p.0) (turns s o u)) (a.1 ∙ sym at) p.1) (subst (λ u. In (Wins q.0) (turns s o u)) b.1 q.1)
        (subst (λ (z : Record). In l.gone.edge (needs_of s.map t (event_site z))) p.2 (subst (λ u. In l.gone.edge (needs_of s.map u (event_site n))) (a.1 ∙ sym at) (contains_in _ l.gone.edge a.2)))
        (subst (λ (z : Record). In l.gone.edge (needs_of s.map l.gone.holder (event_site z))) q.2 (subst (λ u. In l.gone.edge (needs_of s.map u (event_site k))) b.1 (contains_in _ l.gone.edge b.2)))
        (omega (arith, lt, ap (λ (z : Record). z.attempt) p.2)) (omega (arith, le, ap (λ (z : Record). z.attempt) q.2)) in
        omega (arith, z, ap (λ (z : Record). z.stamp) p.2, ap (λ (z : Record). z.stamp) q.2);
    before = λ k n b a lt le.
        let p = record_of s o n (contains_in (records s) n a.0) in
        let q = record_of s o k (contains_in (records s) k b.0) in
        let z = x.before p.0 q.0 (subst (λ u. In (Wins p.0) (turns s o u)) (a.1 ∙ sym at) p.1) (subst (λ u. In (Wins q.0) (turns s o u)) b.1 q.1)
        (subst (λ (z : Record). In l.gone.edge (needs_of s.map t (event_site z))) p.2 (subst (λ u. In l.gone.edge (needs_of s.map u (event_site n))) (a.1 ∙ sym at) (contains_in _ l.gone.edge a.2)))
        (subst (λ (z : Record). In l.gone.edge (needs_of s.map l.gone.holder (event_site z))) q.2 (subst (λ u. In l.gone.edge (needs_of s.map u (event_site k))) b.1 (contains_in _ l.gone.edge b.2)))
        (omega (arith, le, ap (λ (z : Record). z.attempt) p.2)) (omega (arith, lt, ap (λ (z : Record). z.attempt) q.2)) in
        omega (arith, z, ap (λ (z : Record). z.stamp) p.2, ap (λ (z : Record). z.stamp) q.2);
  }
    where
      excuse : (u : ℕ) (k : Lost) → In (Loses k) (turns s o u) → IsExcused s.map (turns s o) u k.gone
      excuse u k j = excused s.map s.meaning (atoms_of s.start) (turns s o) (hist s o) (run s o) (refused s o) (unworn s o) u k j

      x : IsExcused s.map (turns s o) t l.gone
      x = excuse t l i

  -- each abandoned attempt is excused
  pub all_excused : AreExcused s.map s.plan (records s) (abandoned s)
  all_excused = in_all (IsExcusedBy s.map s.plan (records s) (abandoned s)) (abandoned s) (λ g i.
      let r = abandoned_of_turn s o g i in
      subst (IsExcusedBy s.map s.plan (records s) (abandoned s)) (sym r.2) (excused_turn g.tile r.0 r.1 (ap (λ (k : Abandoned). k.tile) r.2)))

  -- following the named holders leads to a record
  leads_on : (left : ℕ) (g : Abandoned) → In g (abandoned s) → length (pairs_of s.map) ≤ g.edge + left → Leads (records s) (abandoned s) g
  leads_on zero g i le =
      let x = all_excused_at g i in
      let y = inside s.map (laws s o) g.tile _ g.edge (contains_in _ g.edge x.needs.2) in
      absurd (omega (arith, le, y))
    where
      all_excused_at : (g : Abandoned) → In g (abandoned s) → IsExcusedBy s.map s.plan (records s) (abandoned s) g
      all_excused_at g i = Rattle.std.proofs.lemmas.List.Elements.All-contains (IsExcusedBy s.map s.plan (records s) (abandoned s)) (abandoned s) g all_excused (in_contains (abandoned s) g i)
  leads_on (suc left) g i le = go x.owed (λ k j lt. leads_on left k j (omega (arith, le, lt)))
    where
      x : IsExcusedBy s.map s.plan (records s) (abandoned s) g
      x = Rattle.std.proofs.lemmas.List.Elements.All-contains (IsExcusedBy s.map s.plan (records s) (abandoned s)) (abandoned s) g all_excused (in_contains (abandoned s) g i)

      go : Any (λ (r : Record). (r.tile ≡ g.holder) × (r.attempt ≡ g.holder_attempt)) (records s) ⊎ Any (λ (k : Abandoned). (k.tile ≡ g.holder) × (k.attempt ≡ g.holder_attempt) × (g.edge < k.edge)) (abandoned s)
          → ((k : Abandoned) → In k (abandoned s) → g.edge < k.edge → Leads (records s) (abandoned s) k) → Leads (records s) (abandoned s) g
      go (inl h) rec = let r = any_of (λ (r : Record). (r.tile ≡ g.holder) × (r.attempt ≡ g.holder_attempt)) (records s) h in arrives g r.0 (in_contains (records s) r.0 r.1) r.2.0 r.2.1
      go (inr h) rec = let r = any_of (λ (k : Abandoned). (k.tile ≡ g.holder) × (k.attempt ≡ g.holder_attempt) × (g.edge < k.edge)) (abandoned s) h in goes g r.0 (in_contains (abandoned s) r.0 r.1) r.2.0 r.2.1 r.2.2 (rec r.0 r.1 r.2.2)

  pub leads : All (Leads (records s) (abandoned s)) (abandoned s)
  leads = in_all (Leads (records s) (abandoned s)) (abandoned s) (λ g i. leads_on (length (pairs_of s.map)) g i (omega arith))

  pub has_no_news : HasNoNews s
  has_no_news e k t u tile lt end is at clear =
      let reg = registers_same in
      let told = tile_told s o t tile is in
      let held = (laws s o).edges.held e k u at in
      let mine : IsEnd s.map t e = is_end (low_end s.map e == t) refl in
      let holds : is_held s.map t u ≡ true = ⊎_elim (λ a. subst (λ v. is_held s.map v u ≡ true) a held.0) (λ a. subst (λ v. is_held s.map v u ≡ true) a held.1) mine in
      let down : (bit_at (values (hist s o e) (word_of (sites_on s.map e) (end_at s.map t e) k)) (k % 64) == 1) ≡ false = (λ i. bit_at (sym reg i e (word_of (sites_on s.map e) (end_at s.map t e) k)) (k % 64) == 1) ∙ ap (λ z. z == 1) clear in
      let low = no_news s.map s.meaning (atoms_of s.start) (turns s o) (hist s o) (run s o) t e k u mine at down in
      let a : (cell_of (registers_at s.edges e (1 + 2 * k)) (registers_at s.edges e (2 + 2 * k))).stamp ≡ (cell_of (values (hist s o e) (1 + 2 * k)) (values (hist s o e) (2 + 2 * k))).stamp = λ i. (cell_of (reg i e (1 + 2 * k)) (reg i e (2 + 2 * k))).stamp in
      let b = ap (λ (c : CellValue). c.stamp) (told.cells u holds) in
      omega (arith, low, a, b)
    where
      is_end : (b : Bool) → (low_end s.map e == t) ≡ b → IsEnd s.map t e
      is_end true q = inl (grind (arith, nat_tests, q))
      is_end false q = inr (grind (arith, nat_tests, q, end))

  -- the theorem
  pub one_order : HasOneOrder s
  one_order = record {
    unworn = none_is_worn s o;
    journal = (are_logs s o, all_logs s o);
    owes = record { accounted = accounted s o; stamped = is_stamped s.map (records s) stamps_right; excused = all_excused };
    replayed = replayed;
    small = stamps_small;
    apart = ties_apart;
    leads = leads;
    no_news = has_no_news;
  }

pub finds_what_stands : FindsWhatStands
finds_what_stands sites holds k d register v good lt found = finds_at holds k d register v good lt found
