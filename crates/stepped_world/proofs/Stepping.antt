-- One step of one tile on the board of all leaves all tiles underway.
use Rattle.std.proofs.Common.{◌≡◌, ◌≢◌, ℕ, List, sym, ◌∙◌, subst, Some}
use Rattle.std.specs.Prelude.{slice_get, slice_set}
use Rattle.std.proofs.lemmas.Option.{slice_get_within}
use Rattle.std.proofs.lemmas.List.{length-set}
use Rattle.window_sites.specs.Window.{WindowValue}
use Rattle.tile_map.specs.Plane.{MapValue}
use Rattle.draw_stream.specs.Plans.{attempts}
use Rattle.edge_lock.specs.PlainBoard.{PlainBoardValue, end_on, lists_on, lists_of_tile, Moved}
use Rattle.edge_lock.proofs.PlainKept.{acting_stays}
use Rattle.tile_core.specs.Values.{TileWith, atoms_of}
use Rattle.tile_core.specs.Underway.{tile_at, IsUnderway, GoesOn}
use Rattle.tile_core.specs.Steps.{rules_of, StepsIn}
use Rattle.tile_core.proofs.Boards.{board_moved, board_turned, lists_turned, others_stay}
use Rattle.serial_order.specs.Scene.{on_map, common_in}
use Rattle.event_journal.specs.Serial.{Course}
use Rattle.stepped_world.specs.Running.{IsTileOf, AreUnderway}
use Rattle.stepped_world.proofs.Slots.{set_each}

module _ {B : Type 0} (after : B → WindowValue → ℕ → WindowValue) (m : MapValue) where
  -- a tile advanced by one step, where its end acts
  pub record Advances (t : ℕ) (x y : TileWith B) (b c : PlainBoardValue) : Type 0 where
    pub acting : b.acting ≡ t
    pub step : StepsIn (rules_of m (after x.behave) (end_on b)) (tile_at x.core (lists_on b)) (tile_at y.core (lists_on c)) x.core.phase
    pub on : GoesOn m (after x.behave) (tile_at x.core (lists_on b)) (tile_at y.core (lists_on c))
    pub number : y.core.number ≡ x.core.number
    pub meaning : after y.behave ≡ after x.behave
    pub moved : Moved b c

  -- another tile's end acts
  pub turned : (g : Course) (tiles : List (TileWith B)) (b c : PlainBoardValue) → c.edges ≡ b.edges → AreUnderway after (on_map m g) tiles b → AreUnderway after (on_map m g) tiles c
  turned g tiles b c same u = record {
    count = u.count;
    each = λ t x is. let k = u.each t x is in record {
      number = k.number;
      underway = subst (IsUnderway (common_in (on_map m g)) (attempts g.plan t) x.core) (sym (lists_turned b c t same)) k.underway;
    };
    meanings = u.meanings;
    board_is = board_turned m b c same u.board_is;
  }

  module _ (g : Course) (tiles : List (TileWith B)) (t : ℕ) (x y : TileWith B) (b c : PlainBoardValue) (u : AreUnderway after (on_map m g) tiles b) (is : slice_get tiles t ≡ Some x) (a : Advances t x y b c) where
    -- the tile is underway
    here_on : IsTileOf (on_map m g) c t y.core
    here_on = let k = u.each t x is in record {
      number = a.number ∙ k.number;
      underway =
          let on : GoesOn m g.meaning (tile_at x.core (lists_of_tile b t)) (tile_at y.core (lists_of_tile c t)) = subst (λ (p : (WindowValue → ℕ → WindowValue) × ℕ × ℕ). GoesOn m p.0 (tile_at x.core (lists_of_tile b p.1)) (tile_at y.core (lists_of_tile c p.2))) (λ i. (u.meanings t x is i, a.acting i, (acting_stays b c a.moved ∙ a.acting) i)) a.on in
          (on (atoms_of g.start) (attempts g.plan t) k.underway).0;
    }

    -- and so are the others
    there_on : (v : ℕ) (z : TileWith B) → v ≢ t → slice_get tiles v ≡ Some z → IsTileOf (on_map m g) c v z.core
    there_on v z ne at = let k = u.each v z at in record {
      number = k.number;
      underway =
          let before = subst (λ n. IsUnderway (common_in (on_map m g)) (attempts g.plan v) z.core (lists_of_tile b n)) (sym k.number) k.underway in
          let now = others_stay m g.meaning (atoms_of g.start) (attempts g.plan v) z.core b c u.board_is a.moved (λ q. ne (sym k.number ∙ (q ∙ a.acting))) before in
          subst (λ n. IsUnderway (common_in (on_map m g)) (attempts g.plan v) z.core (lists_of_tile c n)) k.number now.0;
    }

    pub steps_on : AreUnderway after (on_map m g) (slice_set tiles t y) c
    steps_on = record {
      count = length-set tiles t y ∙ u.count;
      each = set_each (λ v (z : TileWith B). IsTileOf (on_map m g) c v z.core) tiles t y (slice_get_within tiles t x is) here_on there_on;
      meanings = set_each (λ v (z : TileWith B). after z.behave ≡ g.meaning) tiles t y (slice_get_within tiles t x is) (a.meaning ∙ u.meanings t x is) (λ v z ne at. u.meanings v z at);
      board_is = board_moved m b c a.moved u.board_is;
    }
