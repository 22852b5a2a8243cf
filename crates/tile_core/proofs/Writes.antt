-- The step Write keeps a tile underway.
use Rattle.std.proofs.Common.{◌≡◌, ℕ, ◌+◌, ◌-◌, ◌<◌, eqb, Bool, true, false, cond, List, [], ◌∷◌, ◌++◌, length, refl, sym, ap, ◌∙◌, subst, arith, append_assoc, inr, Option, Some, None}
use Rattle.std.specs.Prelude.{if◌then◌else◌, ◌==◌, ◌&&◌}
use Rattle.std.proofs.lemmas.List.Quantifiers.{position-Some}
use Rattle.bit_field.specs.Atom.{AtomValue}
use Rattle.window_sites.specs.Window.{WindowValue}
use Rattle.tile_map.specs.Plane.{Site, MapValue, is_held, in_window}
use Rattle.tile_map.specs.Edges.{window_site, shared_of, low_end}
use Rattle.tile_map.specs.Laws.{IsPlane}
use Rattle.draw_stream.specs.declared.attempt.Attempt.{Attempt}
use Rattle.edge_lock.specs.declared.history.Access.{Access}
use Rattle.edge_lock.specs.declared.history.Access.TheVariants.{Write as Writing}
use Rattle.edge_lock.specs.EndLists.{EndLists, hold_of, known_value, last_shown}
use Rattle.edge_lock.proofs.LastHolds.{last_accesses-snoc}
use Rattle.border_cache.specs.Cells.{CellValue, cell_value, newest}
use Rattle.border_cache.specs.Accesses.{IsHonest}
use Rattle.border_cache.specs.News.{Covers, found_cell, border}
use Rattle.border_cache.specs.Published.{IsPublish}
use Rattle.border_cache.specs.Windows.{has, place_in, edge_place_some, end_at, sites_on, and_cell, seen_on, PublishesAll, border_at, centre_of}
use Rattle.border_cache.specs.Copies.{CacheValue, held_cell, window_cells}
use Rattle.border_cache.proofs.Runs.{known_after}
use Rattle.tile_core.specs.declared.phase.Phase.{Phase}
use Rattle.tile_core.specs.declared.phase.Phase.TheVariants.{Write}
use Rattle.tile_core.specs.Values.{TileValue, centre, no_window}
use Rattle.tile_core.specs.Turns.{Wins, Won, AgreeOnEdges, lists_of, lists_left, with_more, one_if, as_open, IsWon, IsEventHold, cell_left, atom_for, own_cell, newest_at, clock_in, greatest, stamp_of, cells_of, common}
use Rattle.tile_core.specs.Clocks.{WritesClocks}
use Rattle.tile_core.specs.Underway.{Onward, IsUnderway, InPhase, IsRead, IsRun, HasOpen, still, tile_at}
use Rattle.tile_core.specs.Steps.{Writes, over, written_phase, event_entry}
use Rattle.tile_core.proofs.Lists.{open_more, all_left}
use Rattle.tile_core.proofs.Events.{event_hold, seen_all}
use Rattle.tile_core.proofs.Clocking.{greatest_same}
use Rattle.tile_core.proofs.Copies.{MarkedBy, marked, window_cell}
use Rattle.tile_core.proofs.Laws.{over_hand}

-- a place is one of the edge's shared sites
pub place_low : (m : MapValue) (c : Site) (e k : ℕ) → Covers (place_in m c e) 41 k → k < sites_on m e
place_low m c e k cov = go (window_site m c cov.0) cov.2
  where
    go : (o : Option Site) → edge_place_some m e o ≡ Some k → k < sites_on m e
    go None h = absurd (cc h)
    go (Some s) h = (position-Some (λ p. p.x == s.x && p.y == s.y) (shared_of m e) k s h).0

end_small : (m : MapValue) (t e : ℕ) → end_at m t e < 2
end_small m t e = go (eqb (low_end m e) t)
  where
    go : (b : Bool) → cond {A = ℕ} b 0 1 < 2
    go true = omega arith
    go false = omega arith

-- where a place is, there is a site
placed_site : (m : MapValue) (c : Site) (e n k : ℕ) → place_in m c e n ≡ Some k → (s : Site) × (window_site m c n ≡ Some s)
placed_site m c e n k h = go (window_site m c n) refl h
  where
    go : (o : Option Site) → window_site m c n ≡ o → edge_place_some m e o ≡ Some k → (s : Site) × (window_site m c n ≡ Some s)
    go None is h = absurd (cc h)
    go (Some s) is h = (s, is)

-- the same cells at the places
publish_cells : (sites end n : ℕ) (p q : ℕ → CellValue) (places : ℕ → Option ℕ) (xs : List Access) → ((j k : ℕ) → j < n → places j ≡ Some k → p j ≡ q j) → IsPublish (border sites end places n) p xs → IsPublish (border sites end places n) q xs
publish_cells sites end n p q places xs same w = record {
  cells_put = λ j k lt at. let d = w.cells_put j k lt at in (d.0, d.1, d.2, d.3, d.4 ∙ same j k lt at);
  mine = w.mine;
  theirs = w.theirs;
  only_read = w.only_read;
  only_written = w.only_written;
}

pub seen_same_on : (m : MapValue) (t : ℕ) (c : Site) (f g : ℕ → List Access) (n : ℕ) (es : List ℕ) → ((e : ℕ) → has e es ≡ true → found_cell (sites_on m e) (end_at m t e) (f e) (place_in m c e n) ≡ found_cell (sites_on m e) (end_at m t e) (g e) (place_in m c e n))
    → seen_on m t c f n es ≡ seen_on m t c g n es
seen_same_on m t c f g n [] s = refl
seen_same_on m t c f g n (d ∷ ds) s =
    let q : (d == d) ≡ true = grind arith in
    (λ j. and_cell (s d (ap (λ b. if b then true else has d ds) q) j) (seen_same_on m t c f g n ds (λ e h. s e (go (e == d) (has e ds) h)) j))
  where
    go : (b c : Bool) → c ≡ true → (if b then true else c) ≡ true
    go true c h = refl
    go false c h = h

-- what is known of the registers of an open hold
pub known_open : (e a : ℕ) (xs : List Access) (l : EndLists) → known_value (with_more (hold_of e a xs true ∷ []) [] l) ≡ known_after (λ r. None) xs
known_open e a xs l = λ i r. ap (λ ys. last_shown ys r None) (last_accesses-snoc l.holds (hold_of e a xs true)) i

module _ (m : MapValue) (meaning : WindowValue → ℕ → WindowValue) (start : Site → AtomValue) (attempts : List Attempt) (tile : TileValue) (a : ℕ → EndLists) (u : IsUnderway (common m meaning start) attempts tile a) (is : tile.phase ≡ Write) where
  abbrev t : ℕ
  t = tile.number

  abbrev i : ℕ
  i = length u.turns

  abbrev c : Site
  c = centre tile

  pub writing : InPhase (common m meaning start) attempts u.turns (tile_at tile a) Write
  writing = subst (InPhase (common m meaning start) attempts u.turns (tile_at tile a)) is u.hand

  module _ (b d : ℕ → EndLists) (copy : CacheValue) (mark : MarkedBy m t c tile.window tile.event_stamp tile.cache copy) (p : PublishesAll (centre_of m t c) tile.needs (window_cells copy c) a b) (w : WritesClocks tile.needs tile.event_stamp b d) where
    abbrev rd : IsRead m tile writing.1.0
    rd = writing.1.2

    abbrev run : IsRun (common m meaning start) u.turns tile writing.1.0
    run = writing.1.3

    -- all accesses of the hold on an edge
    abbrev whole : ℕ → List Access
    whole e = writing.1.0 e ++ (p.more e ++ Writing 0 tile.event_stamp ∷ [])

    abbrev won : Won
    won = record { note = event_entry tile; hold = λ e. hold_of (end_at m t e) i (writing.1.0 e ++ (p.more e ++ Writing 0 tile.event_stamp ∷ [])) false; after = writing.1.3.after }

    open_now : HasOpen m u.turns (tile_at tile d) tile.needs (λ e. (writing.1.0 e ++ p.more e) ++ w.more e)
    open_now = open_more m tile u.turns tile.needs (λ e. writing.1.0 e ++ p.more e) w.more b d (open_more m tile u.turns tile.needs writing.1.0 p.more a b writing.1.1 p.adds) w.adds

    number : tile.taken - 1 ≡ i
    number = let taken = writing.0.taken in omega (arith, taken)

    -- the event's cells stand in the copy
    cell_is : (n : ℕ) (s : Site) → n < 41 → window_site m c n ≡ Some s → held_cell copy s ≡ cell_value tile.event_stamp (writing.1.3.after s)
    cell_is n s lt at = mark.cells n s lt at ∙ ap (cell_value tile.event_stamp) (sym (writing.1.3.left n s lt at))

    cells_are : (e n k : ℕ) → n < 41 → place_in m c e n ≡ Some k → window_cells copy c n ≡ cell_left m won n
    cells_are e n k lt at =
        let s = placed_site m c e n k at in
        window_cell m c s.0 n copy mark.keeps.map s.1 ∙ (cell_is n s.0 lt s.1 ∙ ap (λ o. cell_value tile.event_stamp (atom_for o writing.1.3.after)) (sym s.1))

    here_held : (e : ℕ) → has e tile.needs ≡ true → a e ≡ with_more (hold_of (end_at m t e) i (writing.1.0 e) true ∷ []) [] (lists_of m t u.turns e)
    here_held e h = writing.1.1 e (u.needs.ends e h) ∙ ap (λ x. with_more (one_if x (hold_of (end_at m t e) i (writing.1.0 e) true)) [] (lists_of m t u.turns e)) h

    known_here : (e : ℕ) → has e tile.needs ≡ true → known_value (a e) ≡ known_after (λ r. None) (writing.1.0 e)
    known_here e h = ap known_value (here_held e h) ∙ known_open (end_at m t e) i (writing.1.0 e) (lists_of m t u.turns e)

    hold_is : (e : ℕ) → has e tile.needs ≡ true → IsEventHold (border_at m t c e) (cell_left m won) tile.event_stamp (whole e)
    hold_is e h =
        let o = rd.is e h in
        let put = publish_cells (sites_on m e) (end_at m t e) 41 (window_cells copy c) (cell_left m won) (place_in m c e) (p.more e) (λ n k lt at. cells_are e n k lt at) (p.writes e h) in
        let one = subst (IsHonest (λ r. None)) o (rd.honest e h) in
        let two = subst (λ xs. IsHonest (known_after (λ r. None) xs) (p.more e)) o (subst (λ k. IsHonest k (p.more e)) (known_here e h) (p.adds.honest e)) in
        subst (λ xs. IsEventHold (border_at m t c e) (cell_left m won) tile.event_stamp (xs ++ (p.more e ++ Writing 0 tile.event_stamp ∷ []))) (sym o)
        (event_hold (sites_on m e) (end_at m t e) (rd.clock e) tile.event_stamp (place_in m c e) (cell_left m won) (rd.reads e) (p.more e) (end_small m t e) (place_low m c e) (rd.refresh e h) put (λ r. None) one two)

    clock_same : (e : ℕ) → has e tile.needs ≡ true → clock_in (writing.1.0 e) ≡ clock_in (whole e)
    clock_same e h =
        let o = rd.is e h in
        ap clock_in o ∙ sym (ap (λ xs. clock_in (xs ++ (p.more e ++ Writing 0 tile.event_stamp ∷ []))) o)

    seen_is : (n : ℕ) → n < 41 → seen_on m t c whole n tile.needs ≡ seen_on m t c writing.1.0 n tile.needs
    seen_is n lt = seen_same_on m t c whole writing.1.0 n tile.needs (λ e h.
        let o = rd.is e h in
        subst (λ xs. found_cell (sites_on m e) (end_at m t e) (xs ++ (p.more e ++ Writing 0 tile.event_stamp ∷ [])) (place_in m c e n) ≡ found_cell (sites_on m e) (end_at m t e) xs (place_in m c e n)) (sym o)
        (seen_all (sites_on m e) (end_at m t e) (rd.clock e) tile.event_stamp (place_in m c e) (window_cells copy c) (rd.reads e) (p.more e) (end_small m t e) (place_low m c e) (rd.refresh e h) (p.writes e h) n lt))

    newest_is : (n : ℕ) → n < 41 → newest_at m t (cells_of m start u.turns) c writing.1.0 n ≡ newest_at m t (cells_of m start u.turns) c whole n
    newest_is n lt =
        let own = own_cell (window_site m c n) (cells_of m start u.turns) in
        ap (λ es. newest own (seen_on m t c writing.1.0 n es)) (sym writing.0.needs) ∙ (ap (newest own) (sym (seen_is n lt)) ∙ ap (λ es. newest own (seen_on m t c whole n es)) writing.0.needs)

    is_won : IsWon (common m meaning start) t u.turns won
    is_won = record {
      tile = refl;
      attempt = number;
      centre = writing.0.centre_is;
      given = λ e h. record { end = refl; attempt_is = refl; closed = refl };
      holds = λ e h. hold_is e (ap (has e) writing.0.needs ∙ h);
      stamp = run.stamp ∙ (ap (λ x. 1 + x) (greatest_same (stamp_of u.turns) (λ e. clock_in (writing.1.0 e)) (λ e. clock_in (whole e)) tile.needs clock_same) ∙ ap (λ es. 1 + greatest (stamp_of u.turns) (λ e. clock_in (whole e)) es) writing.0.needs);
      small = run.small;
      view = run.view;
      shows = record { valid = run.shows.valid; live = run.shows.live; atoms = λ n lt on. run.shows.atoms n lt on ∙ ap (λ (x : CellValue). x.atom) (newest_is n lt) };
      acts = run.acts;
    }

    left : AgreeOnEdges m t d (lists_left m t (still tile.needs 0) (Wins won) u.turns)
    left e own = open_now e own ∙ (go (has e tile.needs) refl ∙ ap (λ es. with_more (one_if (has e es) (as_open (has e tile.needs && true) (won.hold e))) [] (lists_of m t u.turns e)) writing.0.needs)
      where
        go : (x : Bool) → has e tile.needs ≡ x → with_more (one_if (has e tile.needs) (hold_of (end_at m t e) i ((writing.1.0 e ++ p.more e) ++ w.more e) true)) [] (lists_of m t u.turns e)
            ≡ with_more (one_if (has e tile.needs) (as_open (has e tile.needs && true) (won.hold e))) [] (lists_of m t u.turns e)
        go true h =
            let all : (writing.1.0 e ++ p.more e) ++ w.more e ≡ whole e = append_assoc (writing.1.0 e) (p.more e) (w.more e) ∙ ap (λ xs. writing.1.0 e ++ (p.more e ++ xs)) (w.is e h) in
            (λ z. with_more (one_if (h z) (hold_of (end_at m t e) i (all z) true)) [] (lists_of m t u.turns e)) ∙ sym (λ z. with_more (one_if (h z) (as_open (h z && true) (won.hold e))) [] (lists_of m t u.turns e))
        go false h = (λ z. with_more (one_if (h z) (hold_of (end_at m t e) i ((writing.1.0 e ++ p.more e) ++ w.more e) true)) [] (lists_of m t u.turns e)) ∙ sym (λ z. with_more (one_if (h z) (as_open (h z && true) (won.hold e))) [] (lists_of m t u.turns e))

    taken : tile.taken ≡ length (Wins won ∷ u.turns)
    taken = let k = writing.0.taken in omega (arith, k)

    -- the tile after the event, in the phase that follows
    abbrev aim : Phase → TileValue
    aim q = record tile { cache = copy; stamp = tile.event_stamp; window = no_window; records = tile.records ++ event_entry tile ∷ []; next = 0; phase = q }

    by_length : (es : List ℕ) → tile.needs ≡ es → InPhase (common m meaning start) attempts (Wins won ∷ u.turns) (tile_at (aim (written_phase es tile.left)) d) (written_phase es tile.left)
    by_length [] no_need = over_hand m meaning start attempts (Wins won ∷ u.turns) (aim (over tile.left)) d taken
        (all_left m t (Wins won) u.turns tile.needs d writing.0.needs (λ e h. refl) 0 (let q : length tile.needs ≡ 0 = ap (λ xs. length xs) no_need in omega (arith, q)) left)
    by_length (f ∷ fs) need = (taken, subst (λ xs. 0 < length xs) (sym need) (omega arith), (writing.0.needs, left))

    cells_over : (plane : IsPlane m) (s : Site) → is_held m t s ≡ true → (x : Bool) → in_window m c s ≡ x → held_cell copy s ≡ (if x then cell_value tile.event_stamp (writing.1.3.after s) else cells_of m start u.turns s)
    cells_over plane s h true inside = let n = plane.windows.number c s inside in cell_is n.0 s (omega (arith, n.1)) n.2
    cells_over plane s h false outside = mark.keeps.others s h outside ∙ u.cells s h (inr outside)

    wrote : IsPlane m → Onward (common m meaning start) attempts u.turns (tile_at (aim (written_phase tile.needs tile.left)) d)
    wrote plane = (
      record {
        turns = Wins won ∷ u.turns;
        each = (is_won, u.unworn, u.each);
        made = (writing.0.made, u.made);
        records = ap (λ xs. xs ++ event_entry tile ∷ []) u.records;
        abandoned = u.abandoned;
        stamp = refl;
        unworn = u.unworn;
        needs = u.needs;
        map = mark.keeps.map;
        owner = mark.keeps.tile;
        can = u.can;
        left = u.left;
        cells = λ s h q. cells_over plane s h (in_window m c s) refl;
        hand = by_length tile.needs refl;
      },
      inr (Wins won, refl),
    )

  pub writes_on : IsPlane m → (new : TileValue) (d : ℕ → EndLists) → Writes m (tile_at tile a) (tile_at new d) → Onward (common m meaning start) attempts u.turns (tile_at new d)
  writes_on plane new d r = subst (λ w. Onward (common m meaning start) attempts u.turns (tile_at w d)) (sym r.is)
      (wrote r.between d new.cache (marked m t c tile.window tile.event_stamp tile.cache new.cache u.map u.owner r.marks) r.publishes r.stamps plane)
