-- Tiles that are over and the closed edges of their plane make a run that is over.
use Rattle.std.proofs.Common.{◌≡◌, ℕ, zero, suc, ◌<◌, eqb, true, cond, List, [], ◌∷◌, length, refl, sym, ap, ◌∙◌, subst, arith, eq-eqb, ne_eqb, Some}
use Rattle.std.specs.Prelude.{slice_get, if◌then◌else◌, ◌||◌}
use Rattle.std.proofs.lemmas.List.{length-map, get_or-map}
use Rattle.std.proofs.lemmas.Option.{slice_get_within}
use Rattle.tile_core.proofs.Lists.{eqb_of}
use mathlib.Core.Logic.{dite}
use native.Mathlib.Decide.{ℕ_discrete}
use Rattle.window_sites.specs.Window.{WindowValue}
use Rattle.tile_map.specs.Plane.{MapValue, IsMap, tiles_of}
use Rattle.tile_map.specs.Edges.{pairs_of, low_end, high_end, has_end}
use Rattle.cell_grid.specs.Grid.{GridValue}
use Rattle.draw_stream.specs.declared.attempt.Attempt.{Attempt}
use Rattle.draw_stream.specs.Plans.{attempts}
use Rattle.edge_lock.specs.History.{site_count, IsEdgeHistory}
use Rattle.edge_lock.specs.declared.history.Refusal.{Refusal}
use Rattle.edge_lock.specs.EndLists.{EndLists, end_lists}
use Rattle.edge_lock.specs.Passes.{ClosedValue}
use Rattle.edge_lock.specs.SharedEnds.{pass_lists}
use Rattle.edge_lock.proofs.Counts.{sites_back}
use Rattle.border_cache.specs.Windows.{end_at, sites_on}
use Rattle.tile_core.specs.Values.{TileWith, TileValue, atoms_of}
use Rattle.tile_core.specs.Turns.{common, AgreeOnEdges}
use Rattle.tile_core.proofs.Boards.{end_known}
use Rattle.serial_order.specs.Scene.{on_map, common_in, EdgeHistory, no_history, history_at, end_lists_of, lists_at, HasEnded}
use Rattle.event_journal.specs.Serial.{Course}
use Rattle.serial_order.specs.Words.{closed_words, AreEdgeWords, closed_history, closed_histories, no_closed, closed_at}
use Rattle.serial_order.specs.Outcomes.{values_of}
use Rattle.edge_lock.specs.Passes.{EdgeValue, PassValue}
use Rattle.tile_threads.specs.Passes.{passes_of, IsClosedEdge, AreClosed}
use Rattle.serial_order.specs.Fresh.{AreFresh}
use Rattle.tile_threads.specs.Whole.{HaveReturned, HasRun}

module _ (m : MapValue) (lists : ℕ → ℕ → EndLists) (closed : List ClosedValue) (k : AreClosed m lists closed) where
  history_is : (e : ℕ) → e < length (pairs_of m) → history_at (closed_histories closed) e ≡ closed_history (closed_at closed e)
  history_is e lt = let known = k.known in get_or-map closed_history closed e no_closed no_history (omega (arith, lt, known))

  known : length (closed_histories closed) ≡ length (pairs_of m)
  known = length-map closed closed_history ∙ k.known

  edge_is : (e : ℕ) → e < length (pairs_of m) → IsClosedEdge m lists e (closed_at closed e)
  edge_is e lt = let known = k.known in k.each e (omega (arith, lt, known))

  pub words_are : AreEdgeWords m (closed_words closed)
  words_are = record {
    known = known;
    registers = λ e lt. (edge_is e lt).registers;
    histories = λ e lt.
        let inside : e < length (pairs_of m) = omega (arith, lt, known) in
        let c = closed_at closed e in
        let x = edge_is e inside in
        let count : site_count c.registers ≡ sites_on m e = ap site_count x.registers ∙ sites_back (sites_on m e) in
        subst (λ (h : EdgeHistory). IsEdgeHistory (sites_on m e) h.holds h.low h.high) (sym (history_is e inside))
        (subst (λ (y : ℕ × List Refusal × List Refusal). IsEdgeHistory y.0 c.holds y.1 y.2) (λ i. (count i, sym x.history.low i, sym x.history.high i)) x.history.both.history);
  }

  low_lists : (e : ℕ) → e < length (pairs_of m) → end_lists_of 0 (closed_history (closed_at closed e)) ≡ lists (low_end m e) e
  low_lists e lt = let h = (edge_is e lt).history in λ i. end_lists (h.both.lower i) (h.low i)

  high_lists : (e : ℕ) → e < length (pairs_of m) → end_lists_of 1 (closed_history (closed_at closed e)) ≡ lists (high_end m e) e
  high_lists e lt = let h = (edge_is e lt).history in λ i. end_lists (h.both.higher i) (h.high i)

  -- what a tile's end did on an edge of its own
  pub lists_same : (t : ℕ) → t < tiles_of m → AgreeOnEdges m t (lists_at m (closed_histories closed) t) (lists t)
  lists_same t inside e own =
      let lt = end_known m t e inside own in
      let here : lists_at m (closed_histories closed) t e ≡ end_lists_of (end_at m t e) (closed_history (closed_at closed e)) =
      (λ i. if own i then end_lists_of (end_at m t e) (history_at (closed_histories closed) e) else end_lists [] []) ∙ ap (end_lists_of (end_at m t e)) (history_is e lt) in
      here ∙ dite (ℕ_discrete (low_end m e) t)
      (λ is. ap (λ b. end_lists_of (cond {A = ℕ} b 0 1) (closed_history (closed_at closed e))) (eq-eqb (low_end m e) t is) ∙ (low_lists e lt ∙ ap (λ n. lists n e) is))
      (λ apart.
      let miss = ne_eqb (low_end m e) t apart in
      let other : high_end m e ≡ t = sym (eqb_of (high_end m e) t (sym (ap (λ b. b || eqb (high_end m e) t) miss) ∙ own)) in
      ap (λ b. end_lists_of (cond {A = ℕ} b 0 1) (closed_history (closed_at closed e))) miss ∙ (high_lists e lt ∙ ap (λ n. lists n e) other))

-- what a tile has played does not change where the lists of its own edges are the same
ended_agrees : (m : MapValue) (meaning : WindowValue → ℕ → WindowValue) (start : GridValue) (given : List Attempt) (tile : TileValue) (a b : ℕ → EndLists) → AgreeOnEdges m tile.number b a → HasEnded (common m meaning (atoms_of start)) given a tile → HasEnded (common m meaning (atoms_of start)) given b tile
ended_agrees m meaning start given tile a b same h = record {
  made = h.made;
  rest = h.rest;
  all = h.all;
  played = record {
    turns = h.played.turns;
    each = h.played.each;
    all = h.played.all;
    made = h.played.made;
    records_are = h.played.records_are;
    abandoned_are = h.played.abandoned_are;
    lists_are = λ e own. same e own ∙ h.played.lists_are e own;
  };
  ends = h.ends;
  cells = h.cells;
}

module _ {B : Type 0} (after : B → WindowValue → ℕ → WindowValue) (m : MapValue) (valid : IsMap m) (g : Course) (fresh tiles : List (TileWith B)) (f : AreFresh after (on_map m g) fresh)
    (edges : List EdgeValue) (passes : List (List PassValue)) (r : HaveReturned (on_map m g) edges tiles passes) (closed : List ClosedValue) (k : AreClosed m (λ t. pass_lists (passes_of passes t)) closed)
  where
    tile_at : (t : ℕ) (v : TileValue) → slice_get (values_of tiles) t ≡ Some v → (x : TileWith B) × (slice_get tiles t ≡ Some x) × (x.core ≡ v)
    tile_at t v is = go tiles t is
      where
        go : (xs : List (TileWith B)) (t : ℕ) → slice_get (values_of xs) t ≡ Some v → (x : TileWith B) × (slice_get xs t ≡ Some x) × (x.core ≡ v)
        go [] t is = absurd (cc is)
        go (x ∷ xs) zero is = (x, refl, cc is)
        go (x ∷ xs) (suc t) is = go xs t is

    pub has_run : HasRun (on_map m g) tiles closed
    has_run = record {
      made = r.made;
      words = words_are m (λ t. pass_lists (passes_of passes t)) closed k;
      over = record {
        valid = valid;
        grid = f.grid;
        fits = f.fits;
        plan = f.plan_is;
        lists = f.lists;
        count = length-map tiles (λ (x : TileWith B). x.core) ∙ r.count;
        numbers = λ t v is. let q = tile_at t v is in ap (λ (y : TileValue). y.number) (sym q.2) ∙ r.numbers t q.0 q.1;
        ended = λ t v is.
            let q = tile_at t v is in
            let lt = slice_get_within tiles t q.0 q.1 in
            let inside : t < tiles_of m = let c = r.count in omega (arith, lt, c) in
            subst (λ (y : TileValue). HasEnded (common_in (on_map m g)) (attempts g.plan t) (lists_at m (closed_histories closed) t) y) q.2
            (ended_agrees m g.meaning g.start (attempts g.plan t) q.0.core (pass_lists (passes_of passes t)) (lists_at m (closed_histories closed) t)
            (subst (λ n. (e : ℕ) → has_end m n e ≡ true → lists_at m (closed_histories closed) t e ≡ pass_lists (passes_of passes t) e) (sym (r.numbers t q.0 q.1)) (lists_same m (λ t. pass_lists (passes_of passes t)) closed k t inside))
            (r.ended t q.0 q.1));
        known = known m (λ t. pass_lists (passes_of passes t)) closed k;
        histories = (words_are m (λ t. pass_lists (passes_of passes t)) closed k).histories;
      };
    }
