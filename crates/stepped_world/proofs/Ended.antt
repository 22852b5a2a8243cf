-- At the end of the stepped run all tiles are finished, nobody has an edge, and what is there can be settled.
use Rattle.std.proofs.Common.{◌≡◌, ℕ, ◌<◌, ◌≤◌, Bool, true, false, true≢false, List, length, get_or, refl, sym, ap, ◌∙◌, subst, arith, inl, inr, ⊎_elim, Some, None}
use Rattle.std.specs.Prelude.{slice_get, nat_lt}
use Rattle.std.proofs.lemmas.Bool.Decides.{nat_tests}
use Rattle.std.proofs.lemmas.List.{get_or_past, length-map}
use Rattle.std.proofs.lemmas.Option.{slice_get-get_or, slice_get_within}
use Rattle.serial_order.proofs.Whole.{has_high, has_low, high_is, low_is}
use Rattle.list_laws.proofs.Slots.{get_inside}
use Rattle.window_sites.specs.Window.{WindowValue}
use Rattle.tile_map.specs.Plane.{MapValue, IsMap, tiles_of}
use Rattle.tile_map.specs.Edges.{pairs_of, low_end, high_end, has_end}
use Rattle.tile_map.proofs.PlaneLaws.{plane}
use Rattle.draw_stream.specs.Plans.{attempts}
use Rattle.edge_lock.specs.History.{own, open_hold}
use Rattle.edge_lock.specs.EndLists.{is_last_open, IsFree}
use Rattle.edge_lock.specs.PlainBoard.{PlainBoardValue, no_edge, edge_at, lists_of_tile}
use Rattle.edge_lock.proofs.HistoryLaws.{open_is_none}
use Rattle.border_cache.specs.Windows.{end_at}
use Rattle.tile_core.specs.declared.phase.Phase.{Phase}
use Rattle.tile_core.specs.declared.phase.Phase.TheVariants.{Draw, Lock, Refresh, Behave, Write, Give, Back, Finished, Worn}
use Rattle.tile_core.specs.Values.{TileWith, TileValue, atoms_of}
use Rattle.tile_core.specs.Turns.{HasPlayed}
use Rattle.tile_core.specs.Underway.{tile_at, made_by, InPhase}
use Rattle.tile_core.proofs.Boards.{edge_end}
use Rattle.tile_core.proofs.Lists.{free_of}
use Rattle.tile_core.proofs.Played.{played_at_end}
use Rattle.serial_order.specs.Scene.{on_map, common_in, IsOver}
use Rattle.event_journal.specs.Serial.{Course}
use Rattle.serial_order.specs.Words.{histories_on}
use Rattle.serial_order.specs.Outcomes.{scene_of, values_of}
use Rattle.serial_order.specs.Boards.{HasStopped, HaveStopped}
use Rattle.serial_order.proofs.Boards.{words, over}
use Rattle.serial_order.proofs.Promises.{one_order}
use Rattle.stepped_world.specs.Machine.{Machine}
use Rattle.stepped_world.specs.Running.{IsStart, AreUnderway, is_still, stands_still, AnyIsWorn, IsLike, AreLike}
use Rattle.stepped_world.specs.Ends.{HasRun}
use Rattle.stepped_world.proofs.Slots.{value_at}

-- a tile that stands still has stopped
stopped_in : (tile : TileValue) → (p : Phase) → tile.phase ≡ p → is_still p ≡ true → HasStopped tile
stopped_in tile Draw e h = absurd (true≢false (sym h))
stopped_in tile Lock e h = absurd (true≢false (sym h))
stopped_in tile Refresh e h = absurd (true≢false (sym h))
stopped_in tile Behave e h = absurd (true≢false (sym h))
stopped_in tile Write e h = absurd (true≢false (sym h))
stopped_in tile Give e h = absurd (true≢false (sym h))
stopped_in tile Back e h = absurd (true≢false (sym h))
stopped_in tile Finished e h = inl e
stopped_in tile Worn e h = inr e

module _ {B : Type 0} (after : B → WindowValue → ℕ → WindowValue) (m : MapValue) (valid : IsMap m) (g : Course) (tiles : List (TileWith B)) (board : PlainBoardValue) (u : AreUnderway after (on_map m g) tiles board)
    (still : (t : ℕ) → t < tiles_of m → stands_still (slice_get tiles t) ≡ true) where
  inside : (t : ℕ) (x : TileWith B) → slice_get tiles t ≡ Some x → t < tiles_of m
  inside t x is = let lt = slice_get_within tiles t x is in let n = u.count in omega (arith, lt, n)

  module _ {A : Type 0} (after' : A → WindowValue → ℕ → WindowValue) (first : List (TileWith A)) (board' : PlainBoardValue) (s : IsStart after' (on_map m g) first board') where
    have_stopped : HaveStopped (on_map m g) (values_of tiles) board
    have_stopped = record {
      valid = valid;
      grid = s.tiles_are.grid;
      fits = s.tiles_are.fits;
      plan_is = s.tiles_are.plan_is;
      lists = s.tiles_are.lists;
      count = length-map tiles (λ (x : TileWith B). x.core) ∙ u.count;
      edges = u.board_is;
      numbers = λ t tile is. let v = value_at tiles t tile is in ap (λ (z : TileValue). z.number) (sym v.2) ∙ (u.each t v.0 v.1).number;
      underway = λ t tile is. let v = value_at tiles t tile is in let k = u.each t v.0 v.1 in
          subst (λ (z : TileValue). Rattle.tile_core.specs.Underway.IsUnderway (common_in (on_map m g)) (attempts g.plan t) z (lists_of_tile board z.number)) v.2
          (subst (λ n. Rattle.tile_core.specs.Underway.IsUnderway (common_in (on_map m g)) (attempts g.plan t) v.0.core (lists_of_tile board n)) (sym k.number) k.underway);
      stopped = λ t tile is. let v = value_at tiles t tile is in
          subst HasStopped v.2 (stopped_in v.0.core v.0.core.phase refl (ap stands_still (sym v.1) ∙ still t (inside t v.0 v.1)));
    }

    pub is_over : IsOver (scene_of (on_map m g) (values_of tiles) (histories_on board))
    is_over = over (on_map m g) (values_of tiles) board have_stopped

    pub finished : (t : ℕ) (x : TileWith B) → slice_get tiles t ≡ Some x → x.core.phase ≡ Finished
    finished t x is = (one_order (scene_of (on_map m g) (values_of tiles) (histories_on board)) is_over).unworn t x.core (Rattle.std.proofs.lemmas.Option.slice_get-map (λ (z : TileWith B). z.core) tiles t ∙ ap (Rattle.std.specs.Option.option_map (λ (z : TileWith B). z.core)) is)

    -- so none is worn out, and all is as the machine has it
    pub like_it : (k : Machine) → AreLike (on_map m g) tiles board k → IsLike (on_map m g) tiles board k
    like_it k l = ⊎_elim {C = IsLike (on_map m g) tiles board k} (λ z. z) (λ (w : AnyIsWorn tiles). absurd (cc (sym w.3 ∙ finished w.0 w.1 w.2))) l

    -- the tile has no edge any more
    free_tile : (t e : ℕ) → t < tiles_of m → has_end m t e ≡ true → IsFree (lists_of_tile board t e)
    free_tile t e lt end =
        let x = get_inside tiles t (let n = u.count in omega (arith, lt, n)) in
        let k = u.each t x.0 x.1 in
        let h = subst (InPhase (common_in (on_map m g)) (attempts g.plan t) k.underway.turns (tile_at x.0.core (lists_of_tile board t))) (finished t x.0 x.1) k.underway.hand in
        subst IsFree (sym (h.2 e (ap (λ n. has_end m n e) k.number ∙ end))) (free_of m g.meaning (atoms_of g.start) x.0.core.number k.underway.turns e k.underway.each k.underway.unworn)

    end_free : (t e b : ℕ) → t < tiles_of m → has_end m t e ≡ true → e < length (pairs_of m) → end_at m t e ≡ b → is_last_open (own b (edge_at board e).holds) ≡ false
    end_free t e b lt end known is =
        ap (λ n. is_last_open (own n (edge_at board e).holds)) (sym is ∙ sym (edge_end m e (edge_at board e) (u.board_is.each e known) t)) ∙ free_tile t e lt end

    shut : (e : ℕ) → open_hold (edge_at board e).holds ≡ None
    shut e = go (nat_lt e (length (pairs_of m))) refl
      where
        go : (b : Bool) → nat_lt e (length (pairs_of m)) ≡ b → open_hold (edge_at board e).holds ≡ None
        go true is =
            let known : e < length (pairs_of m) = grind (arith, nat_tests, is) in
            let ends = (plane m valid).edges.ends e known in
            open_is_none (edge_at board e).holds (u.board_is.each e known).kept.holds
            (end_free (low_end m e) e 0 (omega (arith, ends.0, ends.1)) (has_low m e) known (low_is m e))
            (end_free (high_end m e) e 1 ends.1 (has_high m e) known (high_is m e ends.0))
        go false is =
            let past : length board.edges ≤ e = (let n = u.board_is.count in let le : length (pairs_of m) ≤ e = grind (arith, nat_tests, is) in omega (arith, n, le)) in
            ap (λ (z : Rattle.edge_lock.specs.PlainEdges.PlainEdgeValue). open_hold z.holds) (get_or_past board.edges e no_edge past)

    pub has_run : HasRun after (on_map m g) tiles board
    has_run = record {
      count = u.count;
      finished = λ t x is. let k = u.each t x is in record {
        number = k.number;
        map = k.underway.map;
        phase = finished t x is;
        played = subst (λ n. HasPlayed (common_in (on_map m g)) n (attempts g.plan t) (made_by x.core (lists_of_tile board t))) k.number (played_at_end m g.meaning (atoms_of g.start) (attempts g.plan t) x.core (lists_of_tile board t) k.underway (finished t x is));
      };
      meanings = u.meanings;
      shut = shut;
      made = λ i d lt. let k = u.each i (get_or tiles i d) (slice_get-get_or tiles i d lt) in (g.meaning, lists_of_tile board i, (atoms_of g.start, attempts g.plan i, k.underway));
      words = words m board u.board_is;
      over = is_over;
    }
