-- A step of a tile on the board is a step of the stepped machine.
use Rattle.std.proofs.Common.{◌≡◌, ◌≢◌, ℕ, suc, ◌+◌, ◌-◌, ◌<◌, ◌≤◌, ◌==◌, ◌⊎◌, eqb, Bool, true, false, List, [], ◌∷◌, ◌++◌, length, take, refl, sym, ap, ◌∙◌, subst, arith, inl, inr, ⊎_elim, Some, None}
use Rattle.std.specs.Prelude.{◌||◌, drop, nat_lt, slice_get, slice_set, if◌then◌else◌}
use Rattle.std.proofs.lemmas.Option.{slice_get_within, same_Some, none-some}
use Rattle.std.proofs.lemmas.Bool.{cases_eq}
use Rattle.event_journal.specs.Logs.{of_tile, abandoned_by}
use Rattle.list_laws.proofs.Slots.{get_set_same}
use Rattle.window_sites.specs.Window.{WindowValue}
use Rattle.tile_map.specs.Plane.{MapValue, site, tiles_of, site_in}
use Rattle.tile_map.specs.Edges.{pairs_of, low_end, high_end, has_end, other_end, needs_of}
use Rattle.cell_grid.specs.declared.record.Record.{Record}
use Rattle.draw_stream.specs.declared.attempt.Attempt.{Attempt}
use Rattle.draw_stream.specs.Plans.{attempts}
use Rattle.event_journal.specs.declared.abandoned.Abandoned.{Abandoned}
use Rattle.edge_lock.specs.declared.history.Access.{Access}
use Rattle.edge_lock.specs.declared.history.Hold.{Hold}
use Rattle.edge_lock.specs.declared.board.Take.{Take}
use Rattle.edge_lock.specs.declared.board.Take.TheVariants.{Got, Busy}
use Rattle.edge_lock.specs.History.{own, register_value, last_value, open_hold, IsHistory}
use Rattle.edge_lock.specs.EndLists.{EndLists, change_last, closed_hold, new_hold, writes_nothing, last_accesses, after_try, after_give, replace_at, hold_of, IsHeld}
use Rattle.edge_lock.specs.PlainEdges.{PlainEdgeValue, view_of, IsKept, IsAnswer}
use Rattle.edge_lock.specs.PlainBoard.{PlainBoardValue, edge_at, end_of, is_end, end_on, lists_on, lists_of_tile}
use Rattle.edge_lock.proofs.LastHolds.{replace_at-here, replace_at-else, last_accesses-snoc, written-append}
use Rattle.edge_lock.proofs.PlainLaws.{answer_means}
use Rattle.border_cache.specs.Accesses.{with_all, after_all}
use Rattle.border_cache.specs.Copies.{IsCentre}
use Rattle.border_cache.specs.Windows.{has, end_at}
use Rattle.border_cache.proofs.Needs.{has_at}
use Rattle.tile_core.specs.declared.phase.Phase.{Phase}
use Rattle.tile_core.specs.declared.phase.Phase.TheVariants.{Draw, Lock, Refresh, Behave, Write, Give, Back, Finished, Worn}
use Rattle.tile_core.specs.Values.{tile_with, TileWith, TileValue, centre, atoms_of}
use Rattle.tile_core.specs.Turns.{greatest, clock_in, one_if, lists_of}
use Rattle.tile_core.specs.Underway.{tile_at, IsUnderway, InPhase}
use Rattle.tile_core.specs.Steps.{rules_of, StepsIn, Draws, Tries, Refreshes, WearsOut, Renews, Behaves, Writes, Frees, Rests, first_phase, next_edge, tile_after_refusal, tile_with_edge, tile_after_give, tile_after_event, tile_after_refresh, event_entry, refused_entry}
use Rattle.tile_core.proofs.Boards.{end_known, edge_end}
use Rattle.tile_core.proofs.Laws.{lock_lt, lock_free, give_lt, give_held, back_lt, back_held}
use Rattle.tile_core.proofs.Refreshing.{open_held}
use Rattle.tile_core.proofs.Clocking.{greatest_same}
use Rattle.stepped_world.specs.Machine.{want_edge, Hand, Doing, Drawing, Locking, Behaving, Writing, Giving, Backing, TileState, EdgeState, Machine, at, next_lock, next_give, next_back, does, is_held_by, record_of, entry_of, tile_after_draw, draw, lock, next_stamp, stamp_edges, write, step_in, step}
use Rattle.stepped_world.specs.Matching.{hand_in, doing_in, IsTileIn, who, IsEdgeIn, Matches}
use Rattle.serial_order.specs.Scene.{on_map, common_in}
use Rattle.event_journal.specs.Serial.{Course}
use Rattle.stepped_world.specs.Running.{IsTileOf, AreUnderway, AnyIsWorn}
use Rattle.stepped_world.proofs.Boards.{Open, open_at, held_turns, free_more, lists_stay, far_stays}
use Rattle.stepped_world.proofs.Finishing.{at_same, at_other}
use Rattle.stepped_world.proofs.Slots.{set_each}
use Rattle.stepped_world.proofs.Stepping.{Advances}
use Rattle.stepped_world.proofs.Tiles.{drop_at, get_first, length_first, begun_doing, got_doing, refused_doing, written_doing, given_doing, backed_doing, filter_more, filter_same, same_tile, other_tile, is_writing}
use Rattle.stepped_world.proofs.Turning.{quiet, value_snoc, all_twice, all_none, turned_edge, got_edge, freed_edge, own_tile, far_tile, found_clock}

module _ {B : Type 0} (after : B → WindowValue → ℕ → WindowValue) (m : MapValue) (g : Course) (tiles : List (TileWith B)) (t : ℕ) (x y : TileWith B) (b c : PlainBoardValue) (u : AreUnderway after (on_map m g) tiles b)
    (is : slice_get tiles t ≡ Some x) (a : Advances after m t x y b c) (s : Machine) (k : Matches m tiles b s) where
  tile : IsTileOf (on_map m g) b t x.core
  tile = u.each t x is

  mine : IsTileIn x.core (s.tile t)
  mine = k.tiles_are t x is

  inside : t < tiles_of m
  inside = let lt = slice_get_within tiles t x is in let n = u.count in omega (arith, lt, n)

  under : IsUnderway (common_in (on_map m g)) (attempts g.plan t) x.core (lists_on b)
  under = subst (λ n. IsUnderway (common_in (on_map m g)) (attempts g.plan t) x.core (lists_of_tile b n)) (sym a.acting) tile.underway

  kept : (e : ℕ) → e < length (pairs_of m) → IsKept (view_of (edge_at b e))
  kept e lt = (u.board_is.each e lt).kept

  mine_end : (e : ℕ) → e < length (pairs_of m) → end_on b e ≡ end_at m t e
  mine_end e lt = ap (end_of (edge_at b e)) a.acting ∙ edge_end m e (edge_at b e) (u.board_is.each e lt) t

  -- an edge that a step of the tile needs
  known : (e : ℕ) → has e x.core.needs ≡ true → (has_end m t e ≡ true) × (e < length (pairs_of m))
  known e h =
      let end : has_end m t e ≡ true = ap (λ n. has_end m n e) (sym tile.number) ∙ under.needs.ends e h in
      (end, end_known m t e inside end)

  -- where the tile's own holds are as they were, so are the edge's
  quiet_holds : (e : ℕ) → e < length (pairs_of m) → (has_end m t e ≡ true → (lists_on c e).holds ≡ (lists_on b e).holds) → (edge_at c e).holds ≡ (edge_at b e).holds
  quiet_holds e lt q = go (has_end m t e) refl
    where
      go : (d : Bool) → has_end m t e ≡ d → (edge_at c e).holds ≡ (edge_at b e).holds
      go true end = lists_stay b c a.moved e (kept e lt) (q end)
      go false far = ap (λ (z : PlainEdgeValue). z.holds) (far_stays b c a.moved e (ap (is_end (edge_at b e)) a.acting ∙ ((let q = u.board_is.each e lt in λ i. eqb (q.lower i) t || eqb (q.higher i) t) ∙ far)))

  quiet_edge : (e : ℕ) (state : EdgeState) → e < length (pairs_of m) → state ≡ s.edge e → (has_end m t e ≡ true → (lists_on c e).holds ≡ (lists_on b e).holds) → IsEdgeIn m e (edge_at c e).holds state
  quiet_edge e state lt same q = subst (λ (p : List Hold × EdgeState). IsEdgeIn m e p.0 p.1) (λ i. (sym (quiet_holds e lt q) i, sym same i)) (k.edges e lt)

  all_quiet : (s' : Machine) → s'.edge ≡ s.edge → lists_on c ≡ lists_on b → (e : ℕ) → e < length (pairs_of m) → IsEdgeIn m e (edge_at c e).holds (s'.edge e)
  all_quiet s' same lists e lt = quiet_edge e (s'.edge e) lt (ap (λ f. f e) same) (λ end. ap (λ (f : ℕ → EndLists). (f e).holds) lists)

  -- the tiles with this one in its place are as this machine has them
  abbrev Aim : TileValue → Machine → Type 0
  Aim w s' = Matches m (slice_set tiles t (tile_with w y.behave)) c s'

  there : t < length tiles
  there = slice_get_within tiles t x is

  -- the entries of another tile are no new ones
  no_record : (v : ℕ) (r : Record) → r.tile ≡ t → v ≢ t → of_tile v (s.records ++ r ∷ []) ≡ of_tile v s.records
  no_record v r at ne = filter_same (λ (q : Record). q.tile == v) s.records r (other_tile v r.tile (λ e. ne (e ∙ at)))

  no_entry : (v : ℕ) (r : Abandoned) → r.tile ≡ t → v ≢ t → abandoned_by v (s.abandoned ++ r ∷ []) ≡ abandoned_by v s.abandoned
  no_entry v r at ne = filter_same (λ (q : Abandoned). q.tile == v) s.abandoned r (other_tile v r.tile (λ e. ne (e ∙ at)))

  -- the tile goes on, and the others stay
  goes_on : (w : TileValue) (s' : Machine) (state : TileState) → s'.tile ≡ at s.tile t state → IsTileIn w state → w.records ≡ of_tile t s'.records → w.abandoned ≡ abandoned_by t s'.abandoned
      → ((v : ℕ) → v ≢ t → of_tile v s'.records ≡ of_tile v s.records) → ((v : ℕ) → v ≢ t → abandoned_by v s'.abandoned ≡ abandoned_by v s.abandoned)
      → ((e : ℕ) → e < length (pairs_of m) → IsEdgeIn m e (edge_at c e).holds (s'.edge e)) → Aim w s'
  goes_on w s' state tiles_are here records abandoned same_records same_abandoned edges = record {
    tiles_are = set_each (λ v (z : TileWith B). IsTileIn z.core (s'.tile v)) tiles t (tile_with w y.behave) there
        (subst (IsTileIn w) (sym (ap (λ f. f t) tiles_are ∙ at_same s.tile t state)) here)
        (λ v z ne q. subst (IsTileIn z.core) (sym (ap (λ f. f v) tiles_are ∙ at_other s.tile t v state ne)) (k.tiles_are v z q));
    records = set_each (λ v (z : TileWith B). z.core.records ≡ of_tile v s'.records) tiles t (tile_with w y.behave) there records (λ v z ne q. k.records v z q ∙ sym (same_records v ne));
    abandoned = set_each (λ v (z : TileWith B). z.core.abandoned ≡ abandoned_by v s'.abandoned) tiles t (tile_with w y.behave) there abandoned (λ v z ne q. k.abandoned v z q ∙ sym (same_abandoned v ne));
    edges = edges;
  }

  -- the same where there is no entry, and the tile has only something else to do
  alone : (w : TileValue) (s' : Machine) (doing : Doing) → s'.tile ≡ at s.tile t (record (s.tile t) { doing = doing }) → s'.records ≡ s.records → s'.abandoned ≡ s.abandoned → doing_in w w.phase ≡ Some doing
      → w.left ≡ x.core.left → w.taken ≡ x.core.taken → w.stamp ≡ x.core.stamp → w.records ≡ x.core.records → w.abandoned ≡ x.core.abandoned
      → ((e : ℕ) → e < length (pairs_of m) → IsEdgeIn m e (edge_at c e).holds (s'.edge e)) → Aim w s'
  alone w s' doing tiles_are same_records same_abandoned does left taken stamp records abandoned edges =
      goes_on w s' (record (s.tile t) { doing = doing }) tiles_are
      (record { doing = does; left = left ∙ mine.left; taken = taken ∙ mine.taken; clock = stamp ∙ mine.clock })
      (records ∙ (k.records t x is ∙ ap (of_tile t) (sym same_records))) (abandoned ∙ (k.abandoned t x is ∙ ap (abandoned_by t) (sym same_abandoned)))
      (λ v ne. ap (of_tile v) same_records) (λ v ne. ap (abandoned_by v) same_abandoned) edges

  -- what the tile is doing
  doing_now : (p : Phase) → x.core.phase ≡ p → doing_in x.core p ≡ Some (s.tile t).doing
  doing_now p e = ap (doing_in x.core) (sym e) ∙ mine.doing

  -- Draw
  abbrev drew_tile : Draws m x.core y.core → TileValue
  drew_tile d = record x.core { left = d.rest; taken = x.core.taken + 1; x = y.core.x; y = y.core.y; seed = d.attempt.seed; needs = needs_of m x.core.number (site y.core.x y.core.y); next = 0; phase = first_phase (needs_of m x.core.number (site y.core.x y.core.y)) }

  drew_state : (d : Draws m x.core y.core) → IsTileIn (drew_tile d) (tile_after_draw m t d.attempt d.rest (s.tile t))
  drew_state d =
      let centre_now : site y.core.x y.core.y ≡ site_in m t d.attempt.centre = d.begins.site_is ∙ ap (λ n. site_in m n d.attempt.centre) tile.number in
      let number : x.core.taken + 1 - 1 ≡ (s.tile t).taken = (let q = mine.taken in omega (arith, q)) in record {
        doing = begun_doing (drew_tile d) (needs_of m x.core.number (site y.core.x y.core.y))
            ∙ (λ i. Some (next_lock (record { attempt = number i; site = centre_now i; seed = d.attempt.seed }) [] (needs_of m (tile.number i) (centre_now i))));
        left = refl;
        taken = ap (λ n. n + 1) mine.taken;
        clock = mine.clock;
      }

  drew : (d : Draws m x.core y.core) → lists_on c ≡ lists_on b → Aim y.core (step_in m g.meaning t s Drawing)
  drew d lists =
      let left : d.attempt ∷ d.rest ≡ (s.tile t).left = sym d.first ∙ mine.left in
      subst (λ (p : TileValue × List Attempt). Aim p.0 (draw m t p.1 s)) (λ i. (sym d.begins.is i, left i))
      (goes_on (drew_tile d) (draw m t (d.attempt ∷ d.rest) s) (tile_after_draw m t d.attempt d.rest (s.tile t)) refl (drew_state d) (k.records t x is) (k.abandoned t x is) (λ v ne. refl) (λ v ne. refl) (all_quiet (draw m t (d.attempt ∷ d.rest) s) refl lists))

  -- the edge that is tried or freed next
  abbrev e : ℕ
  e = next_edge x.core

  -- an edge other than this one, where the lists of this one alone changed
  else_quiet : (d : ℕ) (l : EndLists) (state : EdgeState) → lists_on c ≡ replace_at (lists_on b) e l → d ≢ e → d < length (pairs_of m) → IsEdgeIn m d (edge_at c d).holds (at s.edge e state d)
  else_quiet d l state lists ne lt = quiet_edge d (at s.edge e state d) lt (at_other s.edge e d state ne) (λ end. ap (λ (f : ℕ → EndLists). (f d).holds) lists ∙ ap (λ (z : EndLists). z.holds) (replace_at-else (lists_on b) e d l ne))

  one_edge : (l : EndLists) (state : EdgeState) → lists_on c ≡ replace_at (lists_on b) e l → IsEdgeIn m e (edge_at c e).holds state → (d : ℕ) → d < length (pairs_of m) → IsEdgeIn m d (edge_at c d).holds (at s.edge e state d)
  one_edge l state lists here d lt = ⊎_elim {C = IsEdgeIn m d (edge_at c d).holds (at s.edge e state d)}
      (λ (q : d ≡ e). subst (λ n. IsEdgeIn m n (edge_at c n).holds (at s.edge e state n)) (sym q) (subst (IsEdgeIn m e (edge_at c e).holds) (sym (at_same s.edge e state)) here))
      (λ ne. else_quiet d l state lists ne lt)
      (cases_eq d e)

  -- Lock
  module _ (now : x.core.phase ≡ Lock) where
    lt : x.core.next < length x.core.needs
    lt = lock_lt m g.meaning (atoms_of g.start) (attempts g.plan t) x.core (lists_on b) under now

    own_edge : (has_end m t e ≡ true) × (e < length (pairs_of m))
    own_edge = known e (has_at x.core.next x.core.needs lt)

    abbrev rest : List ℕ
    rest = drop (suc x.core.next) x.core.needs

    abbrev had : List ℕ
    had = take x.core.next x.core.needs

    -- what the tile is doing
    locks : Locking (hand_in x.core) had e rest ≡ (s.tile t).doing
    locks = same_Some _ _ (sym (ap (λ es. Some (next_lock (hand_in x.core) had es)) (drop_at x.core.next x.core.needs lt)) ∙ doing_now Lock now)

    answered : (r : Take) → lists_on c ≡ replace_at (lists_on b) e (after_try (end_on b e) (x.core.taken - 1) r (lists_on b e)) → IsAnswer (end_on b e) (edge_at b e) r
    answered r lists = answer_means b c a.moved e (x.core.taken - 1) r (kept e own_edge.1) (lock_free m g.meaning (atoms_of g.start) (attempts g.plan t) x.core (lists_on b) under now)
        (ap (λ (f : ℕ → EndLists). f e) lists ∙ replace_at-here (lists_on b) e (after_try (end_on b e) (x.core.taken - 1) r (lists_on b e)))

    got_it : lists_on c ≡ replace_at (lists_on b) e (after_try (end_on b e) (x.core.taken - 1) Got (lists_on b e)) → Aim (tile_with_edge (nat_lt (x.core.next + 1) (length x.core.needs)) x.core) (step_in m g.meaning t s (Locking (hand_in x.core) had e rest))
    got_it lists =
        let free : open_hold (edge_at b e).holds ≡ None = answered Got lists in
        let none : None ≡ (s.edge e).holder = sym (ap (who m e) free) ∙ (k.edges e own_edge.1).holder in
        let l = after_try (end_on b e) (x.core.taken - 1) Got (lists_on b e) in
        let more : (lists_on c e).holds ≡ (lists_on b e).holds ++ new_hold (end_on b e) (x.core.taken - 1) ∷ [] = ap (λ (f : ℕ → EndLists). (f e).holds) lists ∙ ap (λ (z : EndLists). z.holds) (replace_at-here (lists_on b) e l) in
        let holds = free_more b c a.moved e (new_hold (end_on b e) (x.core.taken - 1) ∷ []) (lock_free m g.meaning (atoms_of g.start) (attempts g.plan t) x.core (lists_on b) under now) more in
        let state : EdgeState = record (s.edge e) { holder = Some (t, x.core.taken - 1) } in
        let here = got_edge m e (end_on b e) (x.core.taken - 1) t (edge_at b e).holds (edge_at c e).holds (s.edge e) holds (ap (λ n. if n == 0 then low_end m e else high_end m e) (mine_end e own_edge.1) ∙ own_tile m t e own_edge.0) (k.edges e own_edge.1) in
        subst (λ o. Aim (tile_with_edge (nat_lt (x.core.next + 1) (length x.core.needs)) x.core) (lock t (want_edge (hand_in x.core) had e rest) o s)) none
        (got_by (nat_lt (x.core.next + 1) (length x.core.needs)) refl (one_edge l state lists here))
      where
        got_by : (d : Bool) → nat_lt (x.core.next + 1) (length x.core.needs) ≡ d → ((d : ℕ) → d < length (pairs_of m) → IsEdgeIn m d (edge_at c d).holds (at s.edge e (record (s.edge e) { holder = Some (t, x.core.taken - 1) }) d)) → Aim (tile_with_edge d x.core) (lock t (want_edge (hand_in x.core) had e rest) None s)
        got_by true q edges = alone (tile_with_edge true x.core) (lock t (want_edge (hand_in x.core) had e rest) None s) (next_lock (hand_in x.core) (had ++ e ∷ []) rest) refl refl refl (got_doing x.core now lt true q) refl refl refl refl refl edges
        got_by false q edges = alone (tile_with_edge false x.core) (lock t (want_edge (hand_in x.core) had e rest) None s) (next_lock (hand_in x.core) (had ++ e ∷ []) rest) refl refl refl (got_doing x.core now lt false q) refl refl refl refl refl edges

    busy_it : (j : ℕ) → lists_on c ≡ replace_at (lists_on b) e (after_try (end_on b e) (x.core.taken - 1) (Busy j) (lists_on b e)) → Aim (tile_after_refusal m x.core e j) (step_in m g.meaning t s (Locking (hand_in x.core) had e rest))
    busy_it j lists =
        let o = answered (Busy j) lists in
        let far : (if o.0.end == 0 then low_end m e else high_end m e) ≡ other_end m t e = far_tile m t e o.0.end (o.2 ∙ ap (λ n. 1 - n) (mine_end e own_edge.1)) in
        let some : Some (other_end m t e, j) ≡ (s.edge e).holder = (λ i. Some (sym far i, sym o.3 i)) ∙ (sym (ap (who m e) o.1) ∙ (k.edges e own_edge.1).holder) in
        let l = after_try (end_on b e) (x.core.taken - 1) (Busy j) (lists_on b e) in
        let entry = entry_of t (hand_in x.core) e (other_end m t e, j) in
        let same : refused_entry m x.core e j ≡ entry = (λ i. record { tile = tile.number i; attempt = x.core.taken - 1; x = x.core.x; y = x.core.y; edge = e; holder = other_end m (tile.number i) e; holder_attempt = j }) in
        let back = next_back had (s.tile t).left in
        subst (λ h. Aim (tile_after_refusal m x.core e j) (lock t (want_edge (hand_in x.core) had e rest) h s)) some
        (goes_on (tile_after_refusal m x.core e j) (lock t (want_edge (hand_in x.core) had e rest) (Some (other_end m t e, j)) s) (record (s.tile t) { doing = back }) refl
        (record { doing = refused_doing (tile_after_refusal m x.core e j) x.core.next ∙ ap (λ z. Some (next_back had z)) mine.left; left = mine.left; taken = mine.taken; clock = mine.clock })
        (k.records t x is)
        ((λ i. k.abandoned t x is i ++ same i ∷ []) ∙ sym (filter_more (λ (q : Abandoned). q.tile == t) s.abandoned entry (same_tile t t refl)))
        (λ v ne. refl) (λ v ne. no_entry v entry refl ne)
        (λ d dlt. quiet_edge d (s.edge d) dlt refl (λ end. stays d)))
      where
        stays : (d : ℕ) → (lists_on c d).holds ≡ (lists_on b d).holds
        stays d = ⊎_elim {C = (lists_on c d).holds ≡ (lists_on b d).holds}
            (λ (q : d ≡ e). subst (λ n. (lists_on c n).holds ≡ (lists_on b n).holds) (sym q) (ap (λ (f : ℕ → EndLists). (f e).holds) lists ∙ ap (λ (z : EndLists). z.holds) (replace_at-here (lists_on b) e (after_try (end_on b e) (x.core.taken - 1) (Busy j) (lists_on b e)))))
            (λ ne. ap (λ (f : ℕ → EndLists). (f d).holds) lists ∙ ap (λ (z : EndLists). z.holds) (replace_at-else (lists_on b) e d (after_try (end_on b e) (x.core.taken - 1) (Busy j) (lists_on b e)) ne))
            (cases_eq d e)

    tried_by : Tries m (end_on b) (tile_at x.core (lists_on b)) (tile_at y.core (lists_on c)) → Aim y.core (step_in m g.meaning t s (Locking (hand_in x.core) had e rest))
    tried_by d = by d.answer d.lists_are d.is
      where
        by : (r : Take) → lists_on c ≡ replace_at (lists_on b) e (after_try (end_on b e) (x.core.taken - 1) r (lists_on b e)) → y.core ≡ Rattle.tile_core.specs.Steps.tile_after_try m x.core r → Aim y.core (step_in m g.meaning t s (Locking (hand_in x.core) had e rest))
        by Got lists q = subst (λ w. Aim w (step_in m g.meaning t s (Locking (hand_in x.core) had e rest))) (sym q) (got_it lists)
        by (Busy j) lists q = subst (λ w. Aim w (step_in m g.meaning t s (Locking (hand_in x.core) had e rest))) (sym q) (busy_it j lists)

    pub locked : Tries m (end_on b) (tile_at x.core (lists_on b)) (tile_at y.core (lists_on c)) → Aim y.core (step m g.meaning t s)
    locked d = subst (λ q. Aim y.core (step_in m g.meaning t s q)) locks (tried_by d)

  -- the edge's hold after more accesses on it, twice
  added : (first second : List Access) (d : ℕ) (o : Open b d) → (lists_on c d).holds ≡ change_last (with_all second) (change_last (with_all first) (lists_on b d).holds) → (edge_at c d).holds ≡ o.past ++ with_all second (with_all first o.hold) ∷ []
  added first second d o q = held_turns b c a.moved d o (λ h. with_all second (with_all first h)) (q ∙ all_twice first second (lists_on b d).holds)

  -- what the open hold wrote, and then more
  written_more : (xs first second : List Access) (v : ℕ) → last_value ((xs ++ first) ++ second) 0 v ≡ last_value second 0 (last_value first 0 (last_value xs 0 v))
  written_more xs first second v = written-append (xs ++ first) second 0 v ∙ ap (last_value second 0) (written-append xs first 0 v)

  -- an edge of the tile's that is not needed has no access more
  none_more : (first second : ℕ → List Access) (mid : ℕ → EndLists) (d : ℕ) → mid d ≡ after_all (first d) (lists_on b d) → lists_on c d ≡ after_all (second d) (mid d) → first d ≡ [] → second d ≡ [] → (lists_on c d).holds ≡ (lists_on b d).holds
  none_more first second mid d p q none none' =
      ap (λ (z : EndLists). z.holds) q ∙ ((λ i. change_last (with_all (none' i)) (mid d).holds) ∙ (all_none (mid d).holds ∙ (ap (λ (z : EndLists). z.holds) p ∙ ((λ i. change_last (with_all (none i)) (lists_on b d).holds) ∙ all_none (lists_on b d).holds))))

  twice : (first second : ℕ → List Access) (mid : ℕ → EndLists) (d : ℕ) → mid d ≡ after_all (first d) (lists_on b d) → lists_on c d ≡ after_all (second d) (mid d) → (lists_on c d).holds ≡ change_last (with_all (second d)) (change_last (with_all (first d)) (lists_on b d).holds)
  twice first second mid d p q = ap (λ (z : EndLists). z.holds) q ∙ ap (λ (z : EndLists). change_last (with_all (second d)) z.holds) p

  -- Refresh
  module _ (now : x.core.phase ≡ Refresh) where
    refreshing : InPhase (common_in (on_map m g)) (attempts g.plan t) under.turns (tile_at x.core (lists_on b)) Refresh
    refreshing = subst (InPhase (common_in (on_map m g)) (attempts g.plan t) under.turns (tile_at x.core (lists_on b))) now under.hand

    held_there : (d : ℕ) → has d x.core.needs ≡ true → IsHeld (lists_on b d)
    held_there d h = open_held m x.core under.turns x.core.needs (λ e. []) (lists_on b) under.needs.ends refreshing.1 d h

    renewed_edges : (r : Refreshes (tile_at x.core (lists_on b)) (tile_at y.core (lists_on c))) → Renews x.core y.core r.top r.between (lists_on c) → (d : ℕ) → d < length (pairs_of m) → IsEdgeIn m d (edge_at c d).holds (s.edge d)
    renewed_edges r w d lt = go (has d x.core.needs) refl
      where
        go : (h : Bool) → has d x.core.needs ≡ h → IsEdgeIn m d (edge_at c d).holds (s.edge d)
        go false h = quiet_edge d (s.edge d) lt refl (λ end. none_more r.clocks.more w.cells.more r.between d (r.clocks.adds.lists d) (w.cells.adds.lists d) (r.clocks.adds.only d h) (w.cells.adds.only d h))
        go true h =
            let o = open_at b d (kept d lt) (held_there d h) in
            let one : writes_nothing (r.clocks.more d) ≡ true = ap writes_nothing (r.clocks.is d h) in
            let two : writes_nothing (w.cells.more d) ≡ true = (w.cells.reads d h).silent in
            let holds = added (r.clocks.more d) (w.cells.more d) d o (twice r.clocks.more w.cells.more r.between d (r.clocks.adds.lists d) (w.cells.adds.lists d)) in
            let i = k.edges d lt in
            let clock : last_value ((o.hold.accesses ++ r.clocks.more d) ++ w.cells.more d) 0 (register_value o.past 0) ≡ (s.edge d).clock =
            written_more o.hold.accesses (r.clocks.more d) (w.cells.more d) (register_value o.past 0)
            ∙ (quiet (w.cells.more d) 0 _ two ∙ (quiet (r.clocks.more d) 0 _ one ∙ (sym (value_snoc o.past o.hold 0) ∙ (ap (λ hs. register_value hs 0) (sym o.holds) ∙ i.clock)))) in
            turned_edge m d (s.edge d).clock o.past o.hold (with_all (w.cells.more d) (with_all (r.clocks.more d) o.hold)) (edge_at b d).holds (edge_at c d).holds (s.edge d) o.holds holds o.is_open refl refl refl clock i

    -- the tile is worn out, or its edges have the clocks that they had
    refreshed_so : Refreshes (tile_at x.core (lists_on b)) (tile_at y.core (lists_on c)) → Matches m (slice_set tiles t y) c (step m g.meaning t s) ⊎ AnyIsWorn (slice_set tiles t y)
    refreshed_so r = ⊎_elim {C = Matches m (slice_set tiles t y) c (step m g.meaning t s) ⊎ AnyIsWorn (slice_set tiles t y)}
        (λ (w : WearsOut x.core y.core r.top r.between (lists_on c)). inr (t, y, get_set_same tiles t y there, ap (λ (z : TileValue). z.phase) w.is))
        (λ (w : Renews x.core y.core r.top r.between (lists_on c)). inl
        (subst (λ q. Aim y.core (step_in m g.meaning t s q)) (same_Some _ _ (doing_now Refresh now))
        (subst (λ z. Aim z (does t (Behaving (hand_in x.core)) s)) (sym w.is)
        (alone (tile_after_refresh x.core r.top y.core.cache) (does t (Behaving (hand_in x.core)) s) (Behaving (hand_in x.core)) refl refl refl refl refl refl refl refl refl (renewed_edges r w)))))
        r.step

  -- Behave
  behaved : x.core.phase ≡ Behave → (d : Behaves m g.meaning x.core y.core) → lists_on c ≡ lists_on b → Aim y.core (step m g.meaning t s)
  behaved now d lists =
      subst (λ q. Aim y.core (step_in m g.meaning t s q)) (same_Some _ _ (doing_now Behave now))
      (subst (λ z. Aim z (does t (Writing (hand_in x.core)) s)) (sym d.is)
      (alone (record x.core { window = g.meaning d.view x.core.seed; phase = Write }) (does t (Writing (hand_in x.core)) s) (Writing (hand_in x.core)) refl refl refl refl refl refl refl refl refl (all_quiet (does t (Writing (hand_in x.core)) s) refl lists)))

  -- Write
  module _ (now : x.core.phase ≡ Write) where
    writing : InPhase (common_in (on_map m g)) (attempts g.plan t) under.turns (tile_at x.core (lists_on b)) Write
    writing = subst (InPhase (common_in (on_map m g)) (attempts g.plan t) under.turns (tile_at x.core (lists_on b))) now under.hand

    held_here : (d : ℕ) → has d x.core.needs ≡ true → IsHeld (lists_on b d)
    held_here d h = open_held m x.core under.turns x.core.needs writing.1.0 (lists_on b) under.needs.ends writing.1.1 d h

    needs_are : x.core.needs ≡ needs_of m t (centre x.core)
    needs_are = writing.0.needs ∙ ap (λ n. needs_of m n (centre x.core)) tile.number

    -- the accesses of the open hold
    accesses_are : (d : ℕ) (h : has d x.core.needs ≡ true) (o : Open b d) → o.hold.accesses ≡ writing.1.0 d
    accesses_are d h o =
        let opened = writing.1.1 d (under.needs.ends d h) in
        let base = (lists_of m x.core.number under.turns d).holds in
        let hold = hold_of (end_at m x.core.number d) (length under.turns) (writing.1.0 d) true in
        sym (ap last_accesses o.mine ∙ last_accesses-snoc (own (end_on b d) o.past) o.hold)
        ∙ (ap (λ (z : EndLists). last_accesses z.holds) opened ∙ (ap (λ q. last_accesses (base ++ one_if q hold)) h ∙ last_accesses-snoc base hold))

    -- the clock that was found is the edge's
    clock_is : (d : ℕ) → has d x.core.needs ≡ true → clock_in (writing.1.0 d) ≡ (s.edge d).clock
    clock_is d h =
        let lt = (known d h).1 in
        let o = open_at b d (kept d lt) (held_here d h) in
        let r = writing.1.2 in
        let read = r.is d h in
        let found : register_value (o.past ++ o.hold ∷ []) 0 ≡ r.clock d = found_clock o.past o.hold (r.clock d) (r.reads d) (subst (IsHistory _) o.holds (kept d lt).holds) (accesses_are d h o ∙ read) (r.refresh d h).silent in
        ap clock_in read ∙ (sym found ∙ (ap (λ hs. register_value hs 0) (sym o.holds) ∙ (k.edges d lt).clock))

    stamp_is : x.core.event_stamp ≡ next_stamp m t (hand_in x.core) s
    stamp_is = writing.1.3.stamp ∙ ap (λ n. 1 + n)
        (greatest_same _ _ _ x.core.needs clock_is ∙ (λ i. greatest ((sym under.stamp ∙ mine.clock) i) (λ e. (s.edge e).clock) (needs_are i)))

    written_edges : (w : Writes m (tile_at x.core (lists_on b)) (tile_at y.core (lists_on c))) (d : ℕ) → d < length (pairs_of m) → IsEdgeIn m d (edge_at c d).holds (stamp_edges x.core.needs x.core.event_stamp s.edge d)
    written_edges w d lt = go (has d x.core.needs) refl
      where
        go : (h : Bool) → has d x.core.needs ≡ h → IsEdgeIn m d (edge_at c d).holds (if h then record (s.edge d) { clock = x.core.event_stamp } else s.edge d)
        go false h = quiet_edge d (s.edge d) lt refl (λ end. none_more w.publishes.more w.stamps.more w.between d (w.publishes.adds.lists d) (w.stamps.adds.lists d) (w.publishes.adds.only d h) (w.stamps.adds.only d h))
        go true h =
            let o = open_at b d (kept d lt) (held_here d h) in
            let holds = added (w.publishes.more d) (w.stamps.more d) d o (twice w.publishes.more w.stamps.more w.between d (w.publishes.adds.lists d) (w.stamps.adds.lists d)) in
            let clock : last_value ((o.hold.accesses ++ w.publishes.more d) ++ w.stamps.more d) 0 (register_value o.past 0) ≡ x.core.event_stamp =
            written_more o.hold.accesses (w.publishes.more d) (w.stamps.more d) (register_value o.past 0) ∙ ap (λ xs. last_value xs 0 (last_value (w.publishes.more d) 0 (last_value o.hold.accesses 0 (register_value o.past 0)))) (w.stamps.is d h) in
            turned_edge m d x.core.event_stamp o.past o.hold (with_all (w.stamps.more d) (with_all (w.publishes.more d) o.hold)) (edge_at b d).holds (edge_at c d).holds (s.edge d) o.holds holds o.is_open refl refl refl clock (k.edges d lt)

    wrote : Writes m (tile_at x.core (lists_on b)) (tile_at y.core (lists_on c)) → Aim y.core (step m g.meaning t s)
    wrote w =
        let h = hand_in x.core in
        let v = tile_after_event (record x.core { cache = y.core.cache }) in
        let s' = write m g.meaning t h x.core.event_stamp s in
        let state : TileState = record (s.tile t) { doing = next_give (needs_of m t h.site) (s.tile t).left; clock = x.core.event_stamp } in
        let same : event_entry x.core ≡ record_of t h x.core.event_stamp = (λ i. record { stamp = x.core.event_stamp; tile = tile.number i; attempt = x.core.taken - 1; x = x.core.x; y = x.core.y; seed = x.core.seed }) in
        subst (λ q. Aim y.core (step_in m g.meaning t s q)) (same_Some _ _ (doing_now Write now))
        (subst (λ n. Aim y.core (write m g.meaning t h n s)) stamp_is
        (subst (λ z. Aim z s') (sym w.is)
        (goes_on v s' state refl
        (record {
          doing = written_doing (record v { next = 0 }) x.core.needs ∙ (λ i. Some (next_give (needs_are i) (mine.left i)));
          left = mine.left;
          taken = mine.taken;
          clock = refl;
        })
        ((λ i. k.records t x is i ++ same i ∷ []) ∙ sym (filter_more (λ (q : Record). q.tile == t) s.records (record_of t h x.core.event_stamp) (same_tile t t refl)))
        (k.abandoned t x is)
        (λ v ne. no_record v (record_of t h x.core.event_stamp) refl ne) (λ v ne. refl)
        (λ d dlt. subst (λ es. IsEdgeIn m d (edge_at c d).holds (stamp_edges es x.core.event_stamp s.edge d)) needs_are (written_edges w d dlt)))))

  -- Give and Back
  freed_edges : (d : ℕ) → IsHeld (lists_on b e) → e < length (pairs_of m) → lists_on c ≡ replace_at (lists_on b) e (after_give (lists_on b e)) → d < length (pairs_of m) → IsEdgeIn m d (edge_at c d).holds (at s.edge e (record (s.edge e) { holder = None }) d)
  freed_edges d held lt lists dlt =
      let o = open_at b e (kept e lt) held in
      let l = after_give (lists_on b e) in
      let shut : (lists_on c e).holds ≡ change_last closed_hold (lists_on b e).holds = ap (λ (f : ℕ → EndLists). (f e).holds) lists ∙ ap (λ (z : EndLists). z.holds) (replace_at-here (lists_on b) e l) in
      let here = freed_edge m e o.past o.hold (edge_at b e).holds (edge_at c e).holds (s.edge e) o.holds (held_turns b c a.moved e o closed_hold shut) (k.edges e lt) in
      one_edge l (record (s.edge e) { holder = None }) lists here d dlt

  gave : x.core.phase ≡ Give → Frees (length x.core.needs) (tile_at x.core (lists_on b)) (tile_at y.core (lists_on c)) → Aim y.core (step m g.meaning t s)
  gave now f = subst (λ q. Aim y.core (step_in m g.meaning t s q)) gives (subst (λ z. Aim z (does t (next_give (drop (suc x.core.next) x.core.needs) (s.tile t).left) (is_held_by e None s))) (sym f.is) (by (nat_lt (x.core.next + 1) (length x.core.needs)) refl))
    where
      lt : x.core.next < length x.core.needs
      lt = give_lt m g.meaning (atoms_of g.start) (attempts g.plan t) x.core (lists_on b) under now

      held : IsHeld (lists_on b e)
      held = give_held m g.meaning (atoms_of g.start) (attempts g.plan t) x.core (lists_on b) under now

      ends : e < length (pairs_of m)
      ends = (known e (has_at x.core.next x.core.needs lt)).1

      gives : Giving e (drop (suc x.core.next) x.core.needs) ≡ (s.tile t).doing
      gives = same_Some _ _ (sym (ap (λ es. Some (next_give es x.core.left)) (drop_at x.core.next x.core.needs lt)) ∙ doing_now Give now)

      by : (q : Bool) → nat_lt (x.core.next + 1) (length x.core.needs) ≡ q → Aim (tile_after_give q x.core) (does t (next_give (drop (suc x.core.next) x.core.needs) (s.tile t).left) (is_held_by e None s))
      by true q = alone (tile_after_give true x.core) (does t (next_give (drop (suc x.core.next) x.core.needs) (s.tile t).left) (is_held_by e None s)) (next_give (drop (suc x.core.next) x.core.needs) (s.tile t).left) refl refl refl
          (given_doing x.core now true q ∙ ap (λ z. Some (next_give (drop (suc x.core.next) x.core.needs) z)) mine.left) refl refl refl refl refl (λ d dlt. freed_edges d held ends f.lists_are dlt)
      by false q = alone (tile_after_give false x.core) (does t (next_give (drop (suc x.core.next) x.core.needs) (s.tile t).left) (is_held_by e None s)) (next_give (drop (suc x.core.next) x.core.needs) (s.tile t).left) refl refl refl
          (given_doing x.core now false q ∙ ap (λ z. Some (next_give (drop (suc x.core.next) x.core.needs) z)) mine.left) refl refl refl refl refl (λ d dlt. freed_edges d held ends f.lists_are dlt)

  backed : x.core.phase ≡ Back → Frees x.core.count (tile_at x.core (lists_on b)) (tile_at y.core (lists_on c)) → Aim y.core (step m g.meaning t s)
  backed now f = subst (λ q. Aim y.core (step_in m g.meaning t s q)) backs (subst (λ z. Aim z (does t (next_back (drop (suc x.core.next) (take x.core.count x.core.needs)) (s.tile t).left) (is_held_by e None s))) (sym f.is) (by (nat_lt (x.core.next + 1) x.core.count) refl))
    where
      lt : (x.core.next < x.core.count) × (x.core.count ≤ length x.core.needs)
      lt = back_lt m g.meaning (atoms_of g.start) (attempts g.plan t) x.core (lists_on b) under now

      held : IsHeld (lists_on b e)
      held = (back_held m g.meaning (atoms_of g.start) (attempts g.plan t) x.core (lists_on b) under now).0

      ends : e < length (pairs_of m)
      ends = (known e (has_at x.core.next x.core.needs (omega (arith, lt.0, lt.1)))).1

      first : drop x.core.next (take x.core.count x.core.needs) ≡ e ∷ drop (suc x.core.next) (take x.core.count x.core.needs)
      first = drop_at x.core.next (take x.core.count x.core.needs) (let n = length_first x.core.count x.core.needs lt.1 in omega (arith, n, lt.0)) ∙ ap (λ n. n ∷ drop (suc x.core.next) (take x.core.count x.core.needs)) (get_first x.core.next x.core.count x.core.needs lt.0)

      backs : Backing e (drop (suc x.core.next) (take x.core.count x.core.needs)) ≡ (s.tile t).doing
      backs = same_Some _ _ (sym (ap (λ es. Some (next_back es x.core.left)) first) ∙ doing_now Back now)

      by : (q : Bool) → nat_lt (x.core.next + 1) x.core.count ≡ q → Aim (tile_after_give q x.core) (does t (next_back (drop (suc x.core.next) (take x.core.count x.core.needs)) (s.tile t).left) (is_held_by e None s))
      by true q = alone (tile_after_give true x.core) (does t (next_back (drop (suc x.core.next) (take x.core.count x.core.needs)) (s.tile t).left) (is_held_by e None s)) (next_back (drop (suc x.core.next) (take x.core.count x.core.needs)) (s.tile t).left) refl refl refl
          (backed_doing x.core now lt.1 true q ∙ ap (λ z. Some (next_back (drop (suc x.core.next) (take x.core.count x.core.needs)) z)) mine.left) refl refl refl refl refl (λ d dlt. freed_edges d held ends f.lists_are dlt)
      by false q = alone (tile_after_give false x.core) (does t (next_back (drop (suc x.core.next) (take x.core.count x.core.needs)) (s.tile t).left) (is_held_by e None s)) (next_back (drop (suc x.core.next) (take x.core.count x.core.needs)) (s.tile t).left) refl refl refl
          (backed_doing x.core now lt.1 false q ∙ ap (λ z. Some (next_back (drop (suc x.core.next) (take x.core.count x.core.needs)) z)) mine.left) refl refl refl refl refl (λ d dlt. freed_edges d held ends f.lists_are dlt)

  -- Finished: nothing happens
  rested : x.core.phase ≡ Finished → Rests (tile_at x.core (lists_on b)) (tile_at y.core (lists_on c)) → Aim y.core (step m g.meaning t s)
  rested now r =
      subst (λ q. Aim y.core (step_in m g.meaning t s q)) (same_Some _ _ (doing_now Finished now))
      (subst (λ z. Aim z s) (sym r.is)
      (goes_on x.core s (s.tile t) (λ i v. same v i) mine (k.records t x is) (k.abandoned t x is) (λ v ne. refl) (λ v ne. refl) (all_quiet s refl r.lists_are)))
    where
      same : (v : ℕ) → s.tile v ≡ at s.tile t (s.tile t) v
      same v = go (v == t) refl
        where
          go : (q : Bool) → (v == t) ≡ q → s.tile v ≡ (if q then s.tile t else s.tile v)
          go true q = ap s.tile (Rattle.std.proofs.lemmas.Bool.eqb-true v t q)
          go false q = refl

  -- a step on the board is the machine's, unless it wears the tile out
  pub step_like : Matches m (slice_set tiles t y) c (step m g.meaning t s) ⊎ AnyIsWorn (slice_set tiles t y)
  step_like = go x.core.phase refl (subst (λ f. StepsIn (rules_of m f (end_on b)) (tile_at x.core (lists_on b)) (tile_at y.core (lists_on c)) x.core.phase) (u.meanings t x is) a.step)
    where
      go : (p : Phase) → x.core.phase ≡ p → StepsIn (rules_of m g.meaning (end_on b)) (tile_at x.core (lists_on b)) (tile_at y.core (lists_on c)) p → Matches m (slice_set tiles t y) c (step m g.meaning t s) ⊎ AnyIsWorn (slice_set tiles t y)
      go Draw now d = inl (subst (λ q. Aim y.core (step_in m g.meaning t s q)) (same_Some _ _ (doing_now Draw now)) (drew d.0 d.1))
      go Lock now d = inl (locked now d)
      go Refresh now d = refreshed_so now d
      go Behave now d = inl (behaved now d.0 d.1)
      go Write now d = inl (wrote now d)
      go Give now d = inl (gave now d)
      go Back now d = inl (backed now d)
      go Finished now d = inl (rested now d)
      go Worn now d = absurd (none-some _ (doing_now Worn now))

  -- a tile writes at a live site of its own
  pub writes_own : (h : Hand) → (s.tile t).doing ≡ Writing h → IsCentre m t h.site
  writes_own h q =
      let now = is_writing x.core x.core.phase h (mine.doing ∙ ap Some q) in
      let same : hand_in x.core ≡ h = hand_is (same_Some _ _ (sym (ap (doing_in x.core) now) ∙ (mine.doing ∙ ap Some q))) in
      subst (λ (z : Hand). IsCentre m t z.site) same (subst (λ n. IsCentre m n (centre x.core)) tile.number (writing now).0.centre_is)
    where
      hand_is : {v w : Hand} → Writing v ≡ Writing w → v ≡ w
      hand_is e = cc e
