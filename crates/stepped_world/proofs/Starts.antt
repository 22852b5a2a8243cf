-- At the start fresh tiles and a fresh board are as the machine's first state has them.
use Rattle.std.proofs.Common.{◌≡◌, ℕ, zero, suc, ◌+◌, ◌<◌, List, [], ◌∷◌, length, map, get_or, refl, sym, ap, ◌∙◌, subst, arith, Some}
use Rattle.std.specs.Prelude.{slice_get}
use Rattle.window_sites.specs.Window.{WindowValue}
use Rattle.edge_lock.specs.Edges.{EdgeSize, sizes_of}
use Rattle.tile_map.specs.Plane.{MapValue}
use Rattle.draw_stream.specs.declared.attempt.Attempt.{Attempt}
use Rattle.draw_stream.specs.Plans.{attempts}
use Rattle.edge_lock.specs.History.{register_value, open_hold}
use Rattle.edge_lock.specs.EndLists.{EndLists}
use Rattle.edge_lock.specs.PlainBoard.{PlainBoardValue, no_edge, edge_at, lists_of_tile, untouched_edge}
use Rattle.tile_core.specs.declared.phase.Phase.{Phase}
use Rattle.tile_core.specs.declared.phase.Phase.TheVariants.{Draw, Lock, Refresh, Behave, Write, Give, Back, Finished, Worn}
use Rattle.tile_core.specs.Values.{TileWith, TileValue, atoms_of}
use Rattle.tile_core.specs.Turns.{common, Turn, stamp_of, records_in_turns, abandoned_in_turns}
use Rattle.tile_core.specs.Underway.{tile_at, IsUnderway, InPhase}
use Rattle.tile_core.proofs.Boards.{board_new, fresh_there}
use Rattle.stepped_world.specs.Machine.{Drawing, next_draw, first_machine}
use Rattle.stepped_world.specs.Matching.{doing_in, who, Matches}
use Rattle.serial_order.specs.Scene.{on_map, common_in}
use Rattle.event_journal.specs.Serial.{Course}
use Rattle.stepped_world.specs.Running.{IsStart, AreUnderway, IsSound, IsLike}

nothing_yet : (zs : List EdgeSize) (e : ℕ) → (get_or (map untouched_edge zs) e no_edge).holds ≡ []
nothing_yet [] e = refl
nothing_yet (z ∷ zs) zero = refl
nothing_yet (z ∷ zs) (suc e) = nothing_yet zs e

-- a tile that has drawn nothing has made no turn, and what it does next goes by the attempts that it has
module _ (m : MapValue) (meaning : WindowValue → ℕ → WindowValue) (start : Rattle.tile_map.specs.Plane.Site → Rattle.bit_field.specs.Atom.AtomValue) (given : List Attempt) (tile : TileValue) (lists : ℕ → EndLists) (u : IsUnderway (common m meaning start) given tile lists) (none : tile.taken ≡ 0) where
  pub record Fresh : Type 0 where
    pub turns : u.turns ≡ []
    pub doing : doing_in tile tile.phase ≡ Some (next_draw tile.left)

  no_turns : (turns : List Turn) → tile.taken ≡ length turns → turns ≡ []
  no_turns [] e = refl
  no_turns (x ∷ turns) e = absurd (omega (arith, e, none))

  some_left : (left : List Attempt) → 0 < length left → Some Drawing ≡ Some (next_draw left)
  some_left [] lt = absurd (omega (arith, lt))
  some_left (a ∷ left) lt = refl

  begins : Fresh
  begins = go tile.phase refl u.hand
    where
      out : (n : ℕ) → tile.taken ≡ n + 1 → ⊥
      out n e = omega (arith, e, none)

      giving : (turns : List Turn) (edges : List ℕ) → turns ≡ [] → Rattle.tile_core.specs.Underway.IsGiving m turns (tile_at tile lists) edges → ⊥
      giving [] edges e g = g
      giving (x ∷ turns) edges e g = cc e

      go : (p : Phase) → tile.phase ≡ p → InPhase (common m meaning start) given u.turns (tile_at tile lists) p → Fresh
      go Draw is h = record { turns = no_turns u.turns h.0; doing = ap (doing_in tile) is ∙ some_left tile.left h.1 }
      go Finished is h = record { turns = no_turns u.turns h.0; doing = ap (doing_in tile) is ∙ ap (λ l. Some (next_draw l)) (sym h.1) }
      go Lock is h = absurd (out (length u.turns) h.0.taken)
      go Refresh is h = absurd (out (length u.turns) h.0.taken)
      go Behave is h = absurd (out (length u.turns) h.0.taken)
      go Write is h = absurd (out (length u.turns) h.0.taken)
      go Worn is h = absurd (out (length u.turns) h.0.taken)
      go Give is h = absurd (giving u.turns tile.needs (no_turns u.turns h.0) h.2)
      go Back is h = absurd (giving u.turns _ (no_turns u.turns h.0) h.4)

module _ {B : Type 0} (after : B → WindowValue → ℕ → WindowValue) (m : MapValue) (g : Course) (tiles : List (TileWith B)) (board : PlainBoardValue) (s : IsStart after (on_map m g) tiles board) where
  there : (t : ℕ) (x : TileWith B) → slice_get tiles t ≡ Some x → IsUnderway (common_in (on_map m g)) (attempts g.plan t) x.core (lists_of_tile board t)
  there t x is = let f = s.tiles_are.fresh t x is in
      subst (λ n. IsUnderway (common_in (on_map m g)) (attempts g.plan t) x.core (lists_of_tile board n)) f.number (fresh_there m board s.edges g.meaning t (atoms_of g.start) (attempts g.plan t) x.core f)

  pub first_underway : AreUnderway after (on_map m g) tiles board
  first_underway = record {
    count = s.tiles_are.count;
    each = λ t x is. record { number = (s.tiles_are.fresh t x is).number; underway = there t x is };
    meanings = s.tiles_are.meanings;
    board_is = board_new m board s.edges;
  }

  tile_first : (t : ℕ) (x : TileWith B) (is : slice_get tiles t ≡ Some x) → Fresh m g.meaning (atoms_of g.start) (attempts g.plan t) x.core (lists_of_tile board t) (there t x is) (s.tiles_are.fresh t x is).taken
  tile_first t x is = begins m g.meaning (atoms_of g.start) (attempts g.plan t) x.core (lists_of_tile board t) (there t x is) (s.tiles_are.fresh t x is).taken

  first_matches : Matches m tiles board (first_machine g.start g.plan)
  first_matches = record {
    tiles_are = λ t x is. let f = s.tiles_are.fresh t x is in let b = tile_first t x is in record {
      doing = b.doing ∙ ap (λ l. Some (next_draw l)) f.left;
      left = f.left;
      taken = f.taken;
      clock = (there t x is).stamp ∙ ap stamp_of b.turns;
    };
    records = λ t x is. (there t x is).records ∙ ap records_in_turns (tile_first t x is).turns;
    abandoned = λ t x is. (there t x is).abandoned ∙ ap abandoned_in_turns (tile_first t x is).turns;
    edges = λ e lt. let none : (edge_at board e).holds ≡ [] = ap (λ es. (get_or es e no_edge).holds) s.edges ∙ nothing_yet (sizes_of m) e in
        record { clock = ap (λ hs. register_value hs 0) none; holder = ap (λ hs. who m e (open_hold hs)) none };
  }

  first_sound : IsSound (on_map m g) (first_machine g.start g.plan)
  first_sound = record {
    owned = λ i d lt. absurd (omega (arith, lt));
    clocks = λ i d lt. absurd (omega (arith, lt));
    rises = λ i j d lt less. absurd (omega (arith, less));
    grid = refl;
  }

  pub first_like : IsLike (on_map m g) tiles board (first_machine g.start g.plan)
  first_like = record { matches = first_matches; sound = first_sound }
