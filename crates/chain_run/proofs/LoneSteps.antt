-- On a plane of one tile the stepped machine makes each attempt an event, in its order.
use Rattle.std.proofs.Common.{ℕ, ◌≡◌, ◌+◌, ◌++◌, List, [], ◌∷◌, All, append_assoc, arith, cond, false, filter, length, map, refl, subst, sym, ap, ◌∙◌, ◌&&◌}
use Rattle.std.specs.Prelude.{flat_map}
use Rattle.std.specs.List.{range_with_len}
use Rattle.std.proofs.Math.Bool.{and-false}
use Rattle.std.proofs.lemmas.List.{append-nil}
use Rattle.std.proofs.lemmas.List.Elements.{All-head, All-tail}
use Rattle.window_sites.specs.Window.{WindowValue}
use Rattle.cell_grid.specs.Grid.{GridValue, event}
use Rattle.cell_grid.specs.Records.{replay}
use Rattle.cell_grid.specs.declared.record.Record.{Record}
use Rattle.draw_stream.specs.Plans.{PlanValue, attempts}
use Rattle.draw_stream.specs.declared.attempt.Attempt.{Attempt}
use Rattle.stepped_world.proofs.Finishing.{at_same, finished, finishing}
use Rattle.stepped_world.specs.Machine.{Behaving, Doing, Drawing, Machine, Refreshing, TileState, Writing, does, draw, finish, finish_tile, first_machine, hand_of, next_draw, next_give, next_lock, next_stamp, step, step_in, stepped, steps, tile_after_draw, write}
use Rattle.tile_map.specs.Edges.{are_neighbours, is_needed, needs_of, pairs_of}
use Rattle.tile_map.specs.Plane.{MapValue, Site, is_on, site_in, tiles_of}
use Rattle.world_runs.specs.OneTile.{event_of, events_from, events_of}

-- one tile has no neighbour
no_pairs : (m : MapValue) → tiles_of m ≡ 1 → pairs_of m ≡ []
no_pairs m one =
    let none : are_neighbours m 0 0 ≡ false = and-false (is_on m 0 && is_on m 0) in
    ap (λ n. flat_map (λ t. map (λ u. (t, u)) (filter (are_neighbours m t) (range_with_len 0 n))) (range_with_len 0 n)) one
    ∙ ap (λ b. map (λ (u : ℕ). (0, u)) (cond b (0 ∷ []) []) ++ []) none

pub no_needs : (m : MapValue) → tiles_of m ≡ 1 → (t : ℕ) (s : Site) → needs_of m t s ≡ []
no_needs m one t s = ap (λ ps. filter (is_needed m t s) (range_with_len 0 (length ps))) (no_pairs m one)

abbrev tile_state : Doing → List Attempt → ℕ → ℕ → TileState
tile_state doing left taken clock = record { doing = doing; left = left; taken = taken; clock = clock }

-- what a machine has that has refused no attempt
pub record IsLeft (s : Machine) (g : GridValue) (rs : List Record) : Type 0 where
  pub grid : s.grid ≡ g
  pub records : s.records ≡ rs
  pub none : s.abandoned ≡ []

-- and how far its first tile is
record IsAt (s : Machine) (g : GridValue) (rs : List Record) (x : TileState) : Type 0 where
  grid : s.grid ≡ g
  records : s.records ≡ rs
  none : s.abandoned ≡ []
  tile : s.tile 0 ≡ x

module _ (m : MapValue) (one : tiles_of m ≡ 1) (meaning : WindowValue → ℕ → WindowValue) where
  by_doing : (s : Machine) (x : TileState) → s.tile 0 ≡ x → step m meaning 0 s ≡ step_in m meaning 0 s x.doing
  by_doing s x is = ap (λ (y : TileState). step_in m meaning 0 s y.doing) is

  -- a step after which the tile only does something else
  goes_on : (s : Machine) (g : GridValue) (rs : List Record) (x : TileState) (doing : Doing) → step_in m meaning 0 s x.doing ≡ does 0 doing s → IsAt s g rs x → IsAt (step m meaning 0 s) g rs (record x { doing = doing })
  goes_on s g rs x doing is h = subst (λ (z : Machine). IsAt z g rs (record x { doing = doing })) (sym (by_doing s x h.tile ∙ is)) (record {
    grid = h.grid;
    records = h.records;
    none = h.none;
    tile = at_same s.tile 0 (record (s.tile 0) { doing = doing }) ∙ ap (λ (y : TileState). record y { doing = doing }) h.tile;
  })

  draws : (s : Machine) (g : GridValue) (rs : List Record) (i : ℕ) (a : Attempt) (more : List Attempt) → IsAt s g rs (tile_state Drawing (a ∷ more) i i) → IsAt (step m meaning 0 s) g rs (tile_state (Refreshing (hand_of m 0 i a)) more (i + 1) i)
  draws s g rs i a more h =
      let x = tile_state Drawing (a ∷ more) i i in
      let is : step m meaning 0 s ≡ draw m 0 (a ∷ more) s = by_doing s x h.tile ∙ ap (λ (y : TileState). draw m 0 y.left s) h.tile in
      subst (λ (z : Machine). IsAt z g rs (tile_state (Refreshing (hand_of m 0 i a)) more (i + 1) i)) (sym is) (record {
        grid = h.grid;
        records = h.records;
        none = h.none;
        tile = at_same s.tile 0 (tile_after_draw m 0 a more (s.tile 0)) ∙ ap (tile_after_draw m 0 a more) h.tile
            ∙ ap (λ es. tile_state (next_lock (hand_of m 0 i a) [] es) more (i + 1) i) (no_needs m one 0 (site_in m 0 a.centre));
      })

  writes : (s : Machine) (g : GridValue) (rs : List Record) (i n : ℕ) (a : Attempt) (more : List Attempt) → IsAt s g rs (tile_state (Writing (hand_of m 0 i a)) more n i)
      → IsAt (step m meaning 0 s) (event meaning g (site_in m 0 a.centre).x (site_in m 0 a.centre).y a.seed) (rs ++ event_of m (i, a) ∷ []) (tile_state (next_draw more) more n (i + 1))
  writes s g rs i n a more h =
      let x = tile_state (Writing (hand_of m 0 i a)) more n i in
      let hand = hand_of m 0 i a in
      let needs = no_needs m one 0 (site_in m 0 a.centre) in
      let sum : 1 + i ≡ i + 1 = omega arith in
      let stamp : next_stamp m 0 hand s ≡ i + 1 = rw needs (ap (λ (y : TileState). 1 + y.clock) h.tile ∙ sum) in
      let is : step m meaning 0 s ≡ write m meaning 0 hand (i + 1) s = by_doing s x h.tile ∙ ap (λ k. write m meaning 0 hand k s) stamp in
      subst (λ (z : Machine). IsAt z (event meaning g hand.site.x hand.site.y hand.seed) (rs ++ event_of m (i, a) ∷ []) (tile_state (next_draw more) more n (i + 1))) (sym is) (record {
        grid = ap (λ (k : GridValue). event meaning k hand.site.x hand.site.y hand.seed) h.grid;
        records = ap (λ (qs : List Record). qs ++ event_of m (i, a) ∷ []) h.records;
        none = h.none;
        tile = at_same s.tile 0 (record (s.tile 0) { doing = next_give (needs_of m 0 hand.site) (s.tile 0).left; clock = i + 1 })
            ∙ ap (λ (y : TileState). record y { doing = next_give (needs_of m 0 hand.site) y.left; clock = i + 1 }) h.tile
            ∙ ap (λ es. tile_state (next_give es more) more n (i + 1)) needs;
      })

  -- the tile that has these attempts left makes each of them an event
  finishes : (left : List Attempt) (i : ℕ) (s : Machine) (g : GridValue) (rs : List Record) → IsAt s g rs (tile_state (next_draw left) left i i) → IsLeft (finish_tile m meaning 0 s) (replay meaning g (events_from m i left)) (rs ++ events_from m i left)
  finishes [] i s g rs h = subst (λ (z : Machine). IsLeft z g (rs ++ [])) (sym (finished m meaning 0 s (ap (λ (y : TileState). y.doing) h.tile))) (record { grid = h.grid; records = h.records ∙ sym (append-nil rs); none = h.none })
  finishes (a ∷ more) i s g rs h =
      let hand = hand_of m 0 i a in
      let s1 = step m meaning 0 s in
      let s2 = step m meaning 0 s1 in
      let s3 = step m meaning 0 s2 in
      let drawn = draws s g rs i a more h in
      let seen = goes_on s1 g rs (tile_state (Refreshing hand) more (i + 1) i) (Behaving hand) refl drawn in
      let done = goes_on s2 g rs (tile_state (Behaving hand) more (i + 1) i) (Writing hand) refl seen in
      let rest = finishes more (i + 1) (step m meaning 0 s3) (event meaning g hand.site.x hand.site.y hand.seed) (rs ++ event_of m (i, a) ∷ []) (writes s3 g rs i (i + 1) a more done) in
      let same = finishing m meaning 0 s3 ∙ finishing m meaning 0 s2 ∙ finishing m meaning 0 s1 ∙ finishing m meaning 0 s in
      record {
        grid = ap (λ (z : Machine). z.grid) (sym same) ∙ rest.grid;
        records = ap (λ (z : Machine). z.records) (sym same) ∙ rest.records ∙ append_assoc rs (event_of m (i, a) ∷ []) (events_from m (i + 1) more);
        none = ap (λ (z : Machine). z.abandoned) (sym same) ∙ rest.none;
      }

  -- steps of the tile before it is finished change nothing
  absorbed : (order : List ℕ) (s : Machine) → All (λ t. t ≡ 0) order → finish_tile m meaning 0 (steps m meaning order s) ≡ finish_tile m meaning 0 s
  absorbed [] s all = refl
  absorbed (t ∷ ts) s all =
      absorbed ts (step m meaning t s) (All-tail (λ u. u ≡ 0) t ts all) ∙ ap (λ u. finish_tile m meaning 0 (step m meaning u s)) (All-head (λ u. u ≡ 0) t ts all) ∙ finishing m meaning 0 s

  pub lone_machine : (start : GridValue) (plan : PlanValue) (order : List ℕ) → All (λ t. t ≡ 0) order → IsLeft (stepped m meaning start plan order) (replay meaning start (events_of m plan)) (events_of m plan)
  lone_machine start plan order all =
      let first = first_machine start plan in
      let same : stepped m meaning start plan order ≡ finish_tile m meaning 0 first = ap (λ n. finish m meaning (range_with_len 0 n) (steps m meaning order first)) one ∙ absorbed order first all in
      subst (λ (z : Machine). IsLeft z (replay meaning start (events_of m plan)) (events_of m plan)) (sym same) (finishes (attempts plan 0) 0 first start [] (record { grid = refl; records = refl; none = refl; tile = refl }))
