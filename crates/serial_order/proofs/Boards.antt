-- Tiles that have stopped on one plain board are over.
use Rattle.std.proofs.Common.{ℕ, suc, ◌≡◌, ◌<◌, ◌≤◌, List, [], ◌∷◌, true, length, take, drop, refl, sym, ap, subst, ◌∙◌, arith, inl, ⊎_elim}
use Rattle.std.specs.Prelude.{slice_get, min, if◌then◌else◌}
use Rattle.std.proofs.lemmas.List.{append-nil, length-map, length-take, get_or-map, take-append-drop}
use Rattle.std.proofs.lemmas.Option.{slice_get_within}
use Rattle.list_laws.proofs.Slots.{get_take, drop_none}
use Rattle.bit_field.specs.Atom.{AtomValue}
use Rattle.window_sites.specs.Window.{WindowValue}
use Rattle.tile_map.specs.Plane.{Site, MapValue, tiles_of}
use Rattle.tile_map.specs.Edges.{pairs_of}
use Rattle.draw_stream.specs.declared.attempt.Attempt.{Attempt}
use Rattle.draw_stream.specs.Plans.{attempts}
use Rattle.edge_lock.specs.History.{site_count, found_value, IsEdgeHistory}
use Rattle.event_journal.specs.Serial.{Course}
use Rattle.edge_lock.specs.EndLists.{EndLists, end_lists, hold_of, writes_nothing}
use Rattle.edge_lock.specs.PlainEdges.{IsKept, view_of}
use Rattle.edge_lock.specs.PlainBoard.{PlainBoardValue, no_edge, edge_at, end_of, lists_of_tile}
use Rattle.edge_lock.proofs.Counts.{sites_back}
use Rattle.border_cache.specs.Windows.{has, end_at, sites_on}
use Rattle.tile_core.specs.declared.phase.Phase.TheVariants.{Finished, Worn}
use Rattle.tile_core.specs.Values.{TileValue, atoms_of, centre, event_site, given_up_site}
use Rattle.tile_core.specs.Turns.{common, Turn, Worn as WornTurn, Wins, Loses, Wears, AgreeOnEdges, AreAttempts, IsAttemptAt, IsAttemptOf, IsWorn, lists_of, with_more, one_if, greatest, stamp_of, clock_in}
use Rattle.tile_core.specs.Underway.{tile_at, IsUnderway, InPhase, IsDrawn, is_refreshed}
use Rattle.tile_core.specs.Boards.{IsBoardOf}
use Rattle.tile_core.proofs.Boards.{end_known, edge_end}
use Rattle.serial_order.specs.Scene.{EdgeHistory, no_history, history_at, end_lists_of, lists_at, HasEnded, IsStopped, IsOver}
use Rattle.serial_order.specs.Words.{plain_words, AreEdgeWords, plain_history, histories_on}
use Rattle.serial_order.specs.Boards.{HasStopped, HaveStopped}
use Rattle.serial_order.specs.Outcomes.{scene_of}

module _ (m : MapValue) (board : PlainBoardValue) (k : IsBoardOf m board) where
  history_is : (e : ℕ) → e < length (pairs_of m) → history_at (histories_on board) e ≡ plain_history (edge_at board e)
  history_is e lt = let count = k.count in get_or-map plain_history board.edges e no_edge no_history (omega (arith, lt, count))

  known : length (histories_on board) ≡ length (pairs_of m)
  known = length-map board.edges plain_history ∙ k.count

  -- the words of the board are those of its edges' histories
  pub words : AreEdgeWords m (plain_words board)
  words = record {
    known = known;
    registers = λ e lt. (k.each e lt).registers;
    histories = λ e lt. let inside : e < length (pairs_of m) = omega (arith, lt, known) in
        let count : site_count (edge_at board e).registers ≡ sites_on m e = ap site_count (k.each e inside).registers ∙ sites_back (sites_on m e) in
        let kept : IsKept (view_of (edge_at board e)) = (k.each e inside).kept in
        subst (λ (h : EdgeHistory). IsEdgeHistory (sites_on m e) h.holds h.low h.high) (sym (history_is e inside)) (subst (λ n. IsEdgeHistory n (edge_at board e).holds (edge_at board e).low (edge_at board e).high) count kept);
  }

  -- what a tile's end did on an edge of its own
  pub lists_same : (t : ℕ) → t < tiles_of m → AgreeOnEdges m t (lists_at m (histories_on board) t) (lists_of_tile board t)
  lists_same t lt e end =
      let inside = end_known m t e lt end in
      let here : lists_at m (histories_on board) t e ≡ end_lists_of (end_at m t e) (history_at (histories_on board) e) = (λ i. if end i then end_lists_of (end_at m t e) (history_at (histories_on board) e) else end_lists [] []) in
      let which : end_at m t e ≡ end_of (edge_at board e) t = sym (edge_end m e (edge_at board e) (k.each e inside) t) in
      here ∙ (λ i. end_lists_of (which i) (history_is e inside i))

attempt_there : (m : MapValue) (t : ℕ) (given : List Attempt) (n : ℕ) (x : Turn) → IsAttemptOf m t given n x → n < length given
attempt_there m t given n (Wins w) a = slice_get_within given n a.attempt a.is
attempt_there m t given n (Loses l) a = slice_get_within given n a.1.attempt a.1.is
attempt_there m t given n (Wears w) a = slice_get_within given n a.1.attempt a.1.is

module _ (m : MapValue) (t : ℕ) (given : List Attempt) (n : ℕ) where
  first_attempt : (k : ℕ) (s : Site) (seed : ℕ) → k < n → IsAttemptAt m t (slice_get given k) s seed → IsAttemptAt m t (slice_get (take n given) k) s seed
  first_attempt k s seed lt a = record { attempt = a.attempt; is = get_take k n given lt ∙ a.is; site_is = a.site_is; seed_is = a.seed_is }

  first_turn : (k : ℕ) (x : Turn) → k < n → IsAttemptOf m t given k x → IsAttemptOf m t (take n given) k x
  first_turn k (Wins w) lt a = first_attempt k (event_site w.note) w.note.seed lt a
  first_turn k (Loses l) lt a = (a.0, first_attempt k (given_up_site l.gone) a.0 lt a.1)
  first_turn k (Wears w) lt a = (a.0, first_attempt k w.site a.0 lt a.1)

  pub first_turns : (turns : List Turn) → length turns ≤ n → AreAttempts m t given turns → AreAttempts m t (take n given) turns
  first_turns [] le a = tt
  first_turns (x ∷ xs) le a = (first_turn (length xs) x (omega (arith, le)) a.0, first_turns xs (omega (arith, le)) a.1)

pub few_turns : (m : MapValue) (t : ℕ) (given : List Attempt) (turns : List Turn) → AreAttempts m t given turns → length turns ≤ length given
few_turns m t given [] a = omega arith
few_turns m t given (x ∷ xs) a = let lt = attempt_there m t given (length xs) x a.0 in omega (arith, lt)

module _ (m : MapValue) (meaning : WindowValue → ℕ → WindowValue) (start : Site → AtomValue) (given : List Attempt) (tile : TileValue) (lists lists' : ℕ → EndLists) (u : IsUnderway (common m meaning start) given tile lists) (same : AgreeOnEdges m tile.number lists' lists) where
  finished : tile.phase ≡ Finished → HasEnded (common m meaning start) given lists' tile
  finished is = record {
    made = given;
    rest = [];
    all = sym (append-nil given);
    played = record {
      turns = u.turns;
      each = u.each;
      all = count;
      made = u.made;
      records_are = u.records;
      abandoned_are = u.abandoned;
      lists_are = λ e own. same e own ∙ h.2 e own;
    };
    ends = subst (λ p. IsStopped p [] u.turns) (sym is) (refl, u.unworn);
    cells = λ s held. u.cells s held (inl (ap is_refreshed is));
  }
    where
      h : InPhase (common m meaning start) given u.turns (tile_at tile lists) Finished
      h = subst (InPhase (common m meaning start) given u.turns (tile_at tile lists)) is u.hand

      count : length given ≡ length u.turns
      count =
          let low = few_turns m tile.number given u.turns u.made in
          let high = drop_none tile.taken given (sym u.left ∙ h.1) in
          let taken = h.0 in omega (arith, low, high, taken)

  worn : tile.phase ≡ Worn → HasEnded (common m meaning start) given lists' tile
  worn is = record {
    made = take tile.taken given;
    rest = drop tile.taken given;
    all = sym (take-append-drop tile.taken given);
    played = record {
      turns = Wears last ∷ u.turns;
      each = (is_worn, u.unworn, u.each);
      all = length-take tile.taken given ∙ count;
      made = first_turns m tile.number given tile.taken (Wears last ∷ u.turns) (omega (arith, taken)) ((tile.seed, d.made), u.made);
      records_are = u.records;
      abandoned_are = u.abandoned;
      lists_are = λ e own. same e own ∙ (h.1.1 e own ∙ ap (λ es. with_more (one_if (has e es) (last.hold e)) [] (lists_of m tile.number u.turns e)) d.needs);
    };
    ends = subst (λ q. IsStopped q (drop tile.taken given) (Wears last ∷ u.turns)) (sym is) tt;
    cells = λ s held. u.cells s held (inl (ap is_refreshed is));
  }
    where
      h : InPhase (common m meaning start) given u.turns (tile_at tile lists) Worn
      h = subst (InPhase (common m meaning start) given u.turns (tile_at tile lists)) is u.hand

      d : IsDrawn m given u.turns tile
      d = h.0

      taken : tile.taken ≡ suc (length u.turns)
      taken = let k = d.taken in omega (arith, k)

      count : min tile.taken (length given) ≡ suc (length u.turns)
      count = let lt = slice_get_within given (length u.turns) d.made.attempt d.made.is in omega (arith, taken, lt)

      last : WornTurn
      last = record { site = centre tile; hold = λ e. hold_of (end_at m tile.number e) (length u.turns) (h.1.0 e) true }

      is_worn : IsWorn m tile.number u.turns last
      is_worn = record {
        centre = d.centre_is;
        holds = λ e q. let r = h.1.2.is e (ap (has e) d.needs ∙ q) in (refl, refl, ap writes_nothing r, (h.1.2.clock e, ap (λ xs. found_value xs 0) r));
        high = subst (λ es. 4294967295 ≤ greatest (stamp_of u.turns) (λ e. clock_in (h.1.0 e)) es) d.needs h.1.2.high;
      }

  pub has_ended : HasStopped tile → HasEnded (common m meaning start) given lists' tile
  has_ended stopped = ⊎_elim finished worn stopped

-- a tile that is underway on a board and has stopped is over
pub ended : (m : MapValue) (board : PlainBoardValue) → IsBoardOf m board → (meaning : WindowValue → ℕ → WindowValue) (start : Site → AtomValue) (given : List Attempt) (t : ℕ) (tile : TileValue) → tile.number ≡ t
    → IsUnderway (common m meaning start) given tile (lists_of_tile board tile.number) → HasStopped tile → HasEnded (common m meaning start) given (lists_at m (histories_on board) t) tile
ended m board k meaning start given t tile number u stopped =
    has_ended m meaning start given tile (lists_of_tile board tile.number) (lists_at m (histories_on board) t) u (subst (λ n. AgreeOnEdges m tile.number (lists_at m (histories_on board) n) (lists_of_tile board tile.number)) number (lists_same m board k tile.number u.can.inside)) stopped

pub over : (c : Course) (tiles : List TileValue) (board : PlainBoardValue) → HaveStopped c tiles board → IsOver (scene_of c tiles (histories_on board))
over c tiles board h = record {
  valid = h.valid;
  grid = h.grid;
  fits = h.fits;
  plan = h.plan_is;
  lists = h.lists;
  count = h.count;
  numbers = h.numbers;
  ended = λ t tile is. ended c.map board h.edges c.meaning (atoms_of c.start) (attempts c.plan t) t tile (h.numbers t tile is) (h.underway t tile is) (h.stopped t tile is);
  known = known c.map board h.edges;
  histories = (words c.map board h.edges).histories;
}
