-- What holds of the stepped machine by itself after any steps.
use Rattle.std.proofs.Common.{◌≡◌, ◌≢◌, ℕ, ◌+◌, ◌<◌, ◌≤◌, ◌==◌, Bool, true, false, List, [], ◌∷◌, ◌++◌, get_or, refl, sym, ap, ◌∙◌, subst, arith, ◌⊎◌, inl, inr, ⊎_elim, Option, Some, None, All}
use Rattle.std.specs.Prelude.{AllPairs, if◌then◌else◌}
use Rattle.std.proofs.lemmas.List.Elements.{All-push}
use Rattle.std.proofs.lemmas.List.Quantifiers.{all_pairs_push}
use Rattle.std.proofs.lemmas.Bool.{eqb-true, cases_eq}
use Rattle.tile_core.proofs.Played.{greatest_above}
use Rattle.window_sites.specs.Window.{WindowValue}
use Rattle.tile_map.specs.Plane.{MapValue, is_held}
use Rattle.tile_map.specs.Edges.{needs_of}
use Rattle.tile_map.specs.Laws.{IsPlane}
use Rattle.cell_grid.specs.declared.record.Record.{Record}
use Rattle.cell_grid.specs.Grid.{GridValue, event}
use Rattle.cell_grid.specs.Records.{replay}
use Rattle.draw_stream.specs.declared.attempt.Attempt.{Attempt}
use Rattle.border_cache.specs.Copies.{IsCentre}
use Rattle.border_cache.specs.Windows.{has}
use Rattle.tile_core.specs.Values.{event_site}
use Rattle.serial_order.proofs.Ground.{needed, has_in, in_has}
use Rattle.serial_order.proofs.Tile.{greatest_each}
use Rattle.stepped_world.specs.Machine.{want_edge, Hand, Doing, Drawing, Done, Locking, Refreshing, Behaving, Writing, Giving, Backing, TileState, EdgeState, Machine, at, next_lock, next_give, next_back, does, is_held_by, record_of, tile_after_draw, draw, lock, next_stamp, write, step_in, step}
use Rattle.serial_order.specs.Scene.{on_map}
use Rattle.event_journal.specs.Serial.{Course}
use Rattle.stepped_world.specs.Running.{StampsRise, HasClocks, IsSound}

-- a clock that stays
pub tile_clock : (f : ℕ → TileState) (t : ℕ) (x : TileState) → x.clock ≡ (f t).clock → (u : ℕ) → (at f t x u).clock ≡ (f u).clock
tile_clock f t x same u = go (u == t) refl
  where
    go : (b : Bool) → (u == t) ≡ b → (if b then x else f u).clock ≡ (f u).clock
    go true is = same ∙ ap (λ n. (f n).clock) (sym (eqb-true u t is))
    go false is = refl

pub edge_clock : (f : ℕ → EdgeState) (e : ℕ) (x : EdgeState) → x.clock ≡ (f e).clock → (d : ℕ) → (at f e x d).clock ≡ (f d).clock
edge_clock f e x same d = go (d == e) refl
  where
    go : (b : Bool) → (d == e) ≡ b → (if b then x else f d).clock ≡ (f d).clock
    go true is = same ∙ ap (λ n. (f n).clock) (sym (eqb-true d e is))
    go false is = refl

replay_more : (meaning : WindowValue → ℕ → WindowValue) (g : GridValue) (rs : List Record) (r : Record) → replay meaning g (rs ++ r ∷ []) ≡ event meaning (replay meaning g rs) r.x r.y r.seed
replay_more meaning g [] r = refl
replay_more meaning g (q ∷ rs) r = replay_more meaning (event meaning g q.x q.y q.seed) rs r

module _ (m : MapValue) (plane : IsPlane m) (g : Course) (t : ℕ) (s : Machine) (k : IsSound (on_map m g) s) where
  -- a step without an event
  unmoved : (s' : Machine) → s'.records ≡ s.records → s'.grid ≡ s.grid → ((u : ℕ) → (s'.tile u).clock ≡ (s.tile u).clock) → ((e : ℕ) → (s'.edge e).clock ≡ (s.edge e).clock) → IsSound (on_map m g) s'
  unmoved s' records grid tiles edges = record {
    owned = subst (All (λ (r : Record). IsCentre m r.tile (event_site r))) (sym records) k.owned;
    clocks = subst (All (HasClocks m s')) (sym records) (λ i d lt. let c = k.clocks i d lt in record {
      tile = subst (λ n. (get_or s.records i d).stamp ≤ n) (sym (tiles (get_or s.records i d).tile)) c.tile;
      edges = λ e h. subst (λ n. (get_or s.records i d).stamp ≤ n) (sym (edges e)) (c.edges e h);
    });
    rises = subst (AllPairs (StampsRise m)) (sym records) k.rises;
    grid = grid ∙ (k.grid ∙ ap (replay g.meaning g.start) (sym records));
  }

  only : (doing : Doing) → IsSound (on_map m g) (does t doing s)
  only doing = unmoved (does t doing s) refl refl (tile_clock s.tile t (record (s.tile t) { doing = doing }) refl) (λ e. refl)

  frees : (e : ℕ) (holder : Option (ℕ × ℕ)) (doing : Doing) → IsSound (on_map m g) (does t doing (is_held_by e holder s))
  frees e holder doing = unmoved (does t doing (is_held_by e holder s)) refl refl (tile_clock s.tile t (record (s.tile t) { doing = doing }) refl) (edge_clock s.edge e (record (s.edge e) { holder = holder }) refl)

  draws : (left : List Attempt) → IsSound (on_map m g) (draw m t left s)
  draws [] = only Done
  draws (a ∷ more) = unmoved (draw m t (a ∷ more) s) refl refl (tile_clock s.tile t (tile_after_draw m t a more (s.tile t)) refl) (λ e. refl)

  locks : (h : Hand) (had : List ℕ) (e : ℕ) (es : List ℕ) (o : Option (ℕ × ℕ)) → IsSound (on_map m g) (lock t (want_edge h had e es) o s)
  locks h had e es None = frees e (Some (t, h.attempt)) (next_lock h (had ++ e ∷ []) es)
  locks h had e es (Some p) = unmoved (lock t (want_edge h had e es) (Some p) s) refl refl (tile_clock s.tile t (record (s.tile t) { doing = next_back had (s.tile t).left }) refl) (λ d. refl)

  -- an event
  module _ (h : Hand) (centre : IsCentre m t h.site) where
    abbrev needs : List ℕ
    needs = needs_of m t h.site

    abbrev stamp : ℕ
    stamp = next_stamp m t h s

    abbrev new : Record
    new = record_of t h (next_stamp m t h s)

    abbrev after : Machine
    after = write m g.meaning t h (next_stamp m t h s) s

    above_tile : (s.tile t).clock < next_stamp m t h s
    above_tile = let r = greatest_above (s.tile t).clock (λ e. (s.edge e).clock) (needs_of m t h.site) in omega (arith, r)

    above_edge : (e : ℕ) → has e (needs_of m t h.site) ≡ true → (s.edge e).clock < next_stamp m t h s
    above_edge e i = let r = greatest_each (s.tile t).clock (λ e. (s.edge e).clock) (needs_of m t h.site) e (has_in e (needs_of m t h.site) i) in omega (arith, r)

    tile_up : (u : ℕ) → (s.tile u).clock ≤ (after.tile u).clock
    tile_up u = go (u == t) refl
      where
        go : (b : Bool) → (u == t) ≡ b → (s.tile u).clock ≤ (if b then record (s.tile t) { doing = next_give (needs_of m t h.site) (s.tile t).left; clock = next_stamp m t h s } else s.tile u).clock
        go true is = let lt = above_tile in let e : (s.tile u).clock ≡ (s.tile t).clock = ap (λ n. (s.tile n).clock) (eqb-true u t is) in omega (arith, lt, e)
        go false is = omega arith

    edge_up : (e : ℕ) → (s.edge e).clock ≤ (after.edge e).clock
    edge_up e = go (has e (needs_of m t h.site)) refl
      where
        go : (b : Bool) → has e (needs_of m t h.site) ≡ b → (s.edge e).clock ≤ (if b then record (s.edge e) { clock = next_stamp m t h s } else s.edge e).clock
        go true is = let lt = above_edge e is in omega (arith, lt)
        go false is = omega arith

    tile_now : (after.tile t).clock ≡ next_stamp m t h s
    tile_now = let same : (t == t) ≡ true = Rattle.std.proofs.Common.eq-eqb t t refl in rw same refl

    edge_now : (e : ℕ) → has e (needs_of m t h.site) ≡ true → (after.edge e).clock ≡ next_stamp m t h s
    edge_now e i = rw i refl

    -- an earlier event with a site in common has a smaller stamp
    later : (r : Record) → IsCentre m r.tile (event_site r) → HasClocks m s r → StampsRise m r new
    later r c clocks u a b = ⊎_elim {C = r.stamp < next_stamp m t h s}
        (λ (e : r.tile ≡ t). let lt = above_tile in let low = clocks.tile in omega (arith, low, lt, ap (λ n. (s.tile n).clock) e))
        (λ ne. far ne)
        (cases_eq r.tile t)
      where
        far : r.tile ≢ t → r.stamp < next_stamp m t h s
        far ne =
            let mine : is_held m t u ≡ true = subst (λ n. is_held m n u ≡ true) centre.owned (plane.owners.window h.site u centre.live b) in
            let theirs : is_held m r.tile u ≡ true = subst (λ n. is_held m n u ≡ true) c.owned (plane.owners.window (event_site r) u c.live a) in
            let e = plane.edges.meet t r.tile u (λ q. ne (sym q)) mine theirs in
            let one = needed m plane h.site u r.tile e.0 centre.live b (λ q. ne (sym (sym centre.owned ∙ q))) theirs (subst (λ n. Rattle.tile_map.specs.Laws.Joins m e.0 n r.tile) (sym centre.owned) e.2) in
            let back : Rattle.tile_map.specs.Laws.Joins m e.0 r.tile t = ⊎_elim (λ p. inr p) (λ p. inl p) e.2 in
            let two = needed m plane (event_site r) u t e.0 c.live a (λ q. ne (sym c.owned ∙ q)) mine (subst (λ n. Rattle.tile_map.specs.Laws.Joins m e.0 n t) (sym c.owned) back) in
            let first : has e.0 (needs_of m t h.site) ≡ true = ap (λ n. has e.0 (needs_of m n h.site)) (sym centre.owned) ∙ in_has e.0 _ one in
            let second : has e.0 (needs_of m r.tile (event_site r)) ≡ true = ap (λ n. has e.0 (needs_of m n (event_site r))) (sym c.owned) ∙ in_has e.0 _ two in
            let low = clocks.edges e.0 second in let lt = above_edge e.0 first in
            omega (arith, low, lt)

    writes : IsSound (on_map m g) (write m g.meaning t h (next_stamp m t h s) s)
    writes = record {
      owned = All-push (λ (r : Record). IsCentre m r.tile (event_site r)) s.records new k.owned centre;
      clocks = All-push (HasClocks m after) s.records new
          (λ i d lt. let c = k.clocks i d lt in record {
            tile = let low = c.tile in let up = tile_up (get_or s.records i d).tile in omega (arith, low, up);
            edges = λ e q. let low = c.edges e q in let up = edge_up e in omega (arith, low, up);
          })
          (record { tile = let e = tile_now in omega (arith, e); edges = λ e q. let n = edge_now e q in omega (arith, n) });
      rises = all_pairs_push (StampsRise m) s.records new k.rises (λ i d lt. later (get_or s.records i d) (k.owned i d lt) (k.clocks i d lt));
      grid = ap (λ z. event g.meaning z h.site.x h.site.y h.seed) k.grid ∙ sym (replay_more g.meaning g.start s.records new);
    }

  step_by : (p : Doing) → ((h : Hand) → p ≡ Writing h → IsCentre m t h.site) → IsSound (on_map m g) (step_in m g.meaning t s p)
  step_by Drawing c = draws (s.tile t).left
  step_by Done c = k
  step_by (Locking h had e es) c = locks h had e es (s.edge e).holder
  step_by (Refreshing h) c = only (Behaving h)
  step_by (Behaving h) c = only (Writing h)
  step_by (Writing h) c = writes h (c h refl)
  step_by (Giving e es) c = frees e None (next_give es (s.tile t).left)
  step_by (Backing e es) c = frees e None (next_back es (s.tile t).left)

  -- a step keeps it, where the tile writes at a live site of its own
  pub step_sound : ((h : Hand) → (s.tile t).doing ≡ Writing h → IsCentre m t h.site) → IsSound (on_map m g) (step m g.meaning t s)
  step_sound c = step_by (s.tile t).doing c
