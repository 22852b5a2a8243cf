-- What a tile's step asks for, where all tiles are underway, and what it gives.
use Rattle.std.proofs.Common.{◌≡◌, ℕ, List, sym, ◌∙◌, subst, arith, Some}
use Rattle.std.specs.Prelude.{slice_get}
use Rattle.std.proofs.lemmas.Option.{slice_get_within}
use Rattle.window_sites.specs.Window.{WindowValue}
use Rattle.tile_map.specs.Plane.{MapValue}
use Rattle.draw_stream.specs.Plans.{attempts}
use Rattle.edge_lock.specs.PlainBoard.{PlainBoardValue, acting_end, end_on, lists_on, lists_of_tile, Moved}
use Rattle.border_cache.specs.Copies.{IsEndOf}
use Rattle.tile_core.specs.Values.{TileWith, atoms_of}
use Rattle.tile_core.specs.Underway.{tile_at, IsUnderway, IsSome, GoesOn}
use Rattle.tile_core.specs.Steps.{rules_of, StepsIn}
use Rattle.tile_core.proofs.Boards.{board_end}
use Rattle.serial_order.specs.Scene.{on_map}
use Rattle.event_journal.specs.Serial.{Course}
use Rattle.stepped_world.specs.Running.{IsTileOf, AreUnderway}
use Rattle.tile_core.specs.Turns.{common}
use Rattle.stepped_world.proofs.Stepping.{Advances, turned}

module _ {B : Type 0} (after : B → WindowValue → ℕ → WindowValue) (m : MapValue) (g : Course) (tiles : List (TileWith B)) (t : ℕ) (x : TileWith B) (a b : PlainBoardValue) (u : AreUnderway after (on_map m g) tiles a) (is : slice_get tiles t ≡ Some x) (acting : b.acting ≡ t) (same : b.edges ≡ a.edges) where
  now : AreUnderway after (on_map m g) tiles b
  now = turned after m g tiles a b same u

  tile : IsTileOf (on_map m g) b t x.core
  tile = now.each t x is

  pub map_is : m ≡ x.core.cache.map
  map_is = sym tile.underway.map

  pub end_is : IsEndOf x.core.cache.map x.core.number (acting_end b)
  end_is =
      let lt = slice_get_within tiles t x is in let n = u.count in
      subst (λ (p : MapValue × ℕ). IsEndOf p.0 p.1 (acting_end b)) (λ i. (map_is i, (acting ∙ sym tile.number) i)) (board_end m b now.board_is (omega (arith, lt, n, acting)))

  pub some_is : IsSome x.core.cache.map (after x.behave) x.core (lists_on b)
  some_is = (
    atoms_of g.start,
    attempts g.plan t,
    subst (λ (p : MapValue × (WindowValue → ℕ → WindowValue) × ℕ). IsUnderway (common p.0 p.1 (atoms_of g.start)) (attempts g.plan t) x.core (lists_of_tile b p.2)) (λ i. (map_is i, sym (u.meanings t x is) i, sym acting i)) tile.underway,
  )

  pub advanced : (y : TileWith B) (c : PlainBoardValue) → StepsIn (rules_of x.core.cache.map (after x.behave) (end_on b)) (tile_at x.core (lists_on b)) (tile_at y.core (lists_on c)) x.core.phase → GoesOn x.core.cache.map (after x.behave) (tile_at x.core (lists_on b)) (tile_at y.core (lists_on c))
      → y.core.number ≡ x.core.number → after y.behave ≡ after x.behave → Moved b c → Advances after m t x y b c
  advanced y c step on number meaning moved = record {
    acting = acting;
    step = subst (λ k. StepsIn (rules_of k (after x.behave) (end_on b)) (tile_at x.core (lists_on b)) (tile_at y.core (lists_on c)) x.core.phase) (sym map_is) step;
    on = subst (λ k. GoesOn k (after x.behave) (tile_at x.core (lists_on b)) (tile_at y.core (lists_on c))) (sym map_is) on;
    number = number;
    meaning = meaning;
    moved = moved;
  }
