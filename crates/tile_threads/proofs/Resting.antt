-- What a tile that makes no further step still has.
use Rattle.std.proofs.Common.{◌≡◌, ℕ, ◌+◌, ◌*◌, ◌<◌, List, length, get_or, sym, ap, ◌∙◌, subst, ⊎_elim, arith, Some, None}
use Rattle.window_sites.specs.Window.{WindowValue}
use Rattle.tile_map.specs.Plane.{MapValue, site, tiles_of}
use Rattle.tile_map.specs.Edges.{needs_of}
use Rattle.edge_lock.specs.EndLists.{EndLists, IsHeld, HasNoWrite, replace_at, after_give}
use Rattle.edge_lock.specs.EndValues.{EndValue}
use Rattle.border_cache.specs.Copies.{IsEndOf}
use Rattle.tile_core.specs.declared.phase.Phase.TheVariants.{Finished, Worn}
use Rattle.tile_core.specs.Values.{TileValue, in_hand_at, centre}
use Rattle.tile_core.specs.Turns.{AgreeOnEdges}
use Rattle.tile_core.specs.Underway.{IsSome}
use Rattle.tile_core.proofs.Ready.{some_registers}
use Rattle.serial_order.specs.Boards.{HasStopped}
use Rattle.tile_threads.specs.Passes.{let_go}
use Rattle.tile_threads.proofs.LettingGo.{HasHolds, after_some, there, next_held, next_quiet, gave_one, gave_all, let_go_none, finished_free, worn_holds, worn_needs, worn_centre, live_inside}

finishes : (tile : TileValue) → HasStopped tile → None ≡ in_hand_at tile.phase tile.x tile.y → tile.phase ≡ Finished
finishes tile stopped none = ⊎_elim (λ is. is) (λ is. absurd (cc (none ∙ ap (λ p. in_hand_at p tile.x tile.y) is))) stopped

wears : (tile : TileValue) (x y : ℕ) → HasStopped tile → Some (x, y) ≡ in_hand_at tile.phase tile.x tile.y → tile.phase ≡ Worn
wears tile x y stopped some = ⊎_elim (λ is. absurd (cc (some ∙ ap (λ p. in_hand_at p tile.x tile.y) is))) (λ is. is) stopped

module _ (m : MapValue) (tile : TileValue) (a : ℕ → EndLists) (stopped : HasStopped tile) (q : (meaning : WindowValue → ℕ → WindowValue) × IsSome m meaning tile a) where
  -- nothing is in hand
  pub nothing_left : None ≡ in_hand_at tile.phase tile.x tile.y → AgreeOnEdges m tile.number a (λ e. let_go (a e))
  nothing_left none e own = sym (let_go_none (a e) (finished_free m q.0 q.1.0 q.1.1 tile a q.1.2 (finishes tile stopped none) e own))

  module _ (x y : ℕ) (some : Some (x, y) ≡ in_hand_at tile.phase tile.x tile.y) where
    worn : tile.phase ≡ Worn
    worn = wears tile x y stopped some

    same_site : ◌≡◌ {A = ℕ × ℕ} (x, y) (tile.x, tile.y)
    same_site = cc (some ∙ ap (λ p. in_hand_at p tile.x tile.y) worn)

    pub tile_inside : tile.number < tiles_of m
    tile_inside = q.1.2.can.inside

    pub site_inside : (x < m.tx * m.w) × (y < m.ty * m.h)
    site_inside = subst (λ (z : ℕ × ℕ). (z.0 < m.tx * m.w) × (z.1 < m.ty * m.h)) (sym same_site) (live_inside m (centre tile) (worn_centre m q.0 q.1.0 q.1.1 tile a q.1.2 worn).live)

    module _ (needs : List ℕ) (is : needs ≡ needs_of m tile.number (site x y)) where
      pub holds : HasHolds m tile.number needs a
      holds = subst (λ es. HasHolds m tile.number es a) (worn_needs m q.0 q.1.0 q.1.1 tile a q.1.2 worn ∙ (ap (λ (z : ℕ × ℕ). needs_of m tile.number (site z.0 z.1)) (sym same_site) ∙ sym is)) (worn_holds m q.0 q.1.0 q.1.1 tile a q.1.2 worn)

      module _ (b : ℕ → EndLists) (n e : ℕ) (lt : n < length needs) (at : e ≡ get_or needs n 0) (so_far : AgreeOnEdges m tile.number b (after_some a needs n)) where
        pub next_is_held : IsHeld (b e)
        next_is_held = next_held m tile.number needs a b holds n e lt at so_far

        pub next_is_quiet : HasNoWrite (b e)
        next_is_quiet = next_quiet m tile.number needs a b holds n e lt at so_far

        pub is_edge : (end : EndValue) → IsEndOf m tile.number end → 0 < end.registers e
        is_edge end board = some_registers m tile.number end board needs holds.ends e (there m tile.number needs a b holds n e lt at so_far)

        pub given_more : (c : ℕ → EndLists) → c ≡ replace_at b e (after_give (b e)) → AgreeOnEdges m tile.number c (after_some a needs (n + 1))
        given_more c is = gave_one m tile.number needs a b holds n e lt at so_far c is

      pub given_all : (b : ℕ → EndLists) → AgreeOnEdges m tile.number b (after_some a needs (length needs)) → AgreeOnEdges m tile.number b (λ e. let_go (a e))
      given_all b so_far = gave_all m tile.number needs a b holds (length needs) (omega arith) so_far
