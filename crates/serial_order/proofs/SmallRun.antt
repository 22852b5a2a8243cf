-- The example is a run that is over.
use Rattle.std.proofs.Common.{ℕ, zero, suc, ◌≡◌, ◌<◌, ◌+◌, ◌-◌, ◌*◌, ◌/◌, ◌%◌, [], ◌∷◌, refl, sym, ap, subst, arith, Bool, true, false, Option, Some, None, ◌∙◌, ◌&&◌, map, get_or}
use Rattle.std.specs.Prelude.{slice_get, slice_index_or, nat_le, nat_lt, replicate, if◌then◌else◌}
use Rattle.std.proofs.lemmas.Bool.Decides.{nat_tests}
use Rattle.std.proofs.lemmas.List.FromFn.{get_or-map-range_with_len}
use Rattle.list_laws.proofs.Tests.{both, together}
use Rattle.bit_field.specs.Atom.{empty_atom}
use Rattle.window_sites.specs.Inner.{site_numbers}
use Rattle.window_sites.specs.Window.{WindowValue, live_at}
use Rattle.tile_map.specs.Plane.{Site, IsMap, site, in_plane, is_on, is_live, is_held, owner_of, is_reached}
use Rattle.tile_map.specs.Edges.{window_site, needs_of}
use Rattle.window_sites.specs.Sites.{sites}
use Rattle.cell_grid.specs.Grid.{IsGrid, site_atom, empty_grid}
use Rattle.draw_stream.specs.Plans.{IsPlan}
use Rattle.edge_lock.specs.EndLists.{hold_of}
use Rattle.border_cache.specs.Cells.{cell_value}
use Rattle.plane_grid.specs.PlaneGrids.{IsGridOf}
use Rattle.border_cache.specs.Copies.{held_cell, place_held}
use Rattle.border_cache.specs.News.{no_cell}
use Rattle.border_cache.specs.Windows.{has, IsView, is_shown}
use Rattle.tile_core.specs.Values.{TileValue, atoms_of}
use Rattle.tile_core.specs.Turns.{made_of, common, Won, Wins, IsWon, HasPlayed, cells_of, newest_at, own_cell, accesses_at}
use Rattle.serial_order.specs.Scene.{IsOver, HasEnded, lists_at}
use Rattle.serial_order.specs.Example.{small_plane, first_attempt, first_record, stays, cell_left_at, small_tile, small_scene}

same_all : {A : Type 0} (a : A) (n i : ℕ) → get_or (replicate n a) i a ≡ a
same_all a zero i = refl
same_all a (suc n) zero = refl
same_all a (suc n) (suc i) = same_all a n i

in_all : {A : Type 0} (a d : A) (n i : ℕ) → i < n → get_or (replicate n a) i d ≡ a
in_all a d zero i lt = absurd (omega (arith, lt))
in_all a d (suc n) zero lt = refl
in_all a d (suc n) (suc i) lt = in_all a d n i (omega (arith, lt))

small_map : IsMap small_plane
small_map = record {
  sizes = record { tx_low = omega arith; tx_high = omega arith; ty_low = omega arith; ty_high = omega arith; w_low = omega arith; w_high = omega arith; h_low = omega arith; h_high = omega arith };
  marks = refl;
}

small_grid : IsGrid (empty_grid 8 8)
small_grid = record {
  wide = omega arith;
  not_wider = omega arith;
  high = omega arith;
  not_higher = omega arith;
  whole = refl;
  marked = refl;
  hidden = λ i lt e. same_all empty_atom 64 i;
}

all_live : (x y : ℕ) → x < 8 → y < 8 → is_live small_plane (site x y) ≡ true
all_live x y a b =
    let owner : y / 8 * 1 + x / 8 ≡ 0 = omega (arith, a, b) in
    let c : nat_lt x 8 ≡ true = grind (arith, nat_tests, a) in
    let d : nat_lt y 8 ≡ true = grind (arith, nat_tests, b) in
    together (nat_lt x 8 && nat_lt y 8) (is_on small_plane (y / 8 * 1 + x / 8)) (together (nat_lt x 8) (nat_lt y 8) c d) (ap (is_on small_plane) owner)

small_fits : IsGridOf small_plane (empty_grid 8 8)
small_fits = record {
  wide = refl;
  high = refl;
  live = λ x y a b. in_all true false 64 (y * 8 + x) (omega (arith, a, b)) ∙ sym (all_live x y a b);
}

small_plan : IsPlan small_scene.plan
small_plan = record { some = omega arith; most = omega arith; few = omega arith }

-- the event: it needs no edge, and leaves each site empty
abbrev the_event : Won
the_event = record { note = first_record; hold = λ e. hold_of 0 0 [] false; after = λ s. empty_atom }

abbrev the_view : WindowValue
the_view = record { atoms = replicate 41 empty_atom; live = map (is_shown small_plane (site 0 0)) site_numbers }

shown : (n : ℕ) → n < 41 → live_at the_view n ≡ is_shown small_plane (site 0 0) n
shown n lt = get_or-map-range_with_len (is_shown small_plane (site 0 0)) 0 41 n n false lt (omega arith)

centre_shown : is_shown small_plane (site 0 0) 0 ≡ true
unfolding sites
centre_shown = refl

its_view : IsView small_plane (site 0 0) (newest_at small_plane 0 (cells_of small_plane (atoms_of (empty_grid 8 8)) []) (site 0 0) (accesses_at the_event)) the_view
its_view = record {
  valid = record { atoms = refl; live = refl; hidden = λ n lt e. same_all empty_atom 41 n; centre = shown 0 (omega arith) ∙ centre_shown };
  live = shown;
  atoms = λ n lt h. same_all empty_atom 41 n ∙ sym (go (window_site small_plane (site 0 0) n));
}
  where
    go : (o : Option Site) → (own_cell o (cells_of small_plane (atoms_of (empty_grid 8 8)) [])).atom ≡ empty_atom
    go None = refl
    go (Some s) = same_all empty_atom 64 (s.y * 8 + s.x)

no_need : (e : ℕ) {A : Type 0} → has e (needs_of small_plane 0 (site 0 0)) ≡ true → A
no_need e h = absurd (cc (h))

won : IsWon (common small_plane stays (atoms_of (empty_grid 8 8))) 0 [] the_event
won = record {
  tile = refl;
  attempt = refl;
  centre = record { live = refl; owned = refl };
  given = λ e h. no_need e h;
  holds = λ e h. no_need e h;
  stamp = refl;
  small = omega arith;
  view = the_view;
  shows = its_view;
  acts = λ n s lt is. sym (same_all empty_atom 41 n);
}

played : HasPlayed (common small_plane stays (atoms_of (empty_grid 8 8))) 0 (first_attempt ∷ []) (made_of (first_record ∷ []) [] (lists_at small_plane [] 0))
played = record {
  turns = Wins the_event ∷ [];
  each = (won, tt, tt);
  all = refl;
  made = (record { attempt = first_attempt; is = refl; site_is = refl; seed_is = refl }, tt);
  records_are = refl;
  abandoned_are = refl;
  lists_are = λ e own. refl;
}

cells : (s : Site) → is_held small_plane 0 s ≡ true → held_cell small_tile.cache s ≡ cells_of small_plane (atoms_of (empty_grid 8 8)) (Wins the_event ∷ []) s
cells s held = go (nat_le (s.x + s.y) 4) refl
  where
    live : is_live small_plane s ≡ true
    live = (both (is_live small_plane s) (is_reached small_plane 0 s) (both (is_on small_plane 0) (is_live small_plane s && is_reached small_plane 0 s) held).1).0

    inside : (nat_lt s.x 8 ≡ true) × (nat_lt s.y 8 ≡ true)
    inside = both (nat_lt s.x 8) (nat_lt s.y 8) (both (in_plane small_plane s) (is_on small_plane (owner_of small_plane s)) live).0

    x : s.x < 8
    x = grind (arith, nat_tests, inside.0)

    y : s.y < 8
    y = grind (arith, nat_tests, inside.1)

    at : held_cell small_tile.cache s ≡ cell_left_at (s.y * 8 + s.x)
    at = get_or-map-range_with_len cell_left_at 0 64 (place_held small_plane 0 s) (s.y * 8 + s.x) no_cell (omega (arith, x, y)) (omega arith)

    distance : (s.y * 8 + s.x) % 8 + (s.y * 8 + s.x) / 8 ≡ s.x + s.y
    distance = omega (arith, x, y)

    far : (0 - s.x + (s.x - 0)) + (0 - s.y + (s.y - 0)) ≡ s.x + s.y
    far = omega arith

    go : (b : Bool) → nat_le (s.x + s.y) 4 ≡ b → held_cell small_tile.cache s ≡ cells_of small_plane (atoms_of (empty_grid 8 8)) (Wins the_event ∷ []) s
    go b is =
        at ∙ (ap (λ n. cell_value (if nat_le n 4 then 1 else 0) empty_atom) distance
        ∙ (ap (λ c. cell_value (if c then 1 else 0) empty_atom) is
        ∙ (pick b ∙ sym (λ i. if live i && far_test i then cell_value 1 empty_atom else cell_value 0 (site_atom (empty_grid 8 8) s.x s.y)))))
      where
        far_test : nat_le ((0 - s.x + (s.x - 0)) + (0 - s.y + (s.y - 0))) 4 ≡ b
        far_test = ap (λ n. nat_le n 4) far ∙ is

        pick : (b : Bool) → cell_value (if b then 1 else 0) empty_atom ≡ (if true && b then cell_value 1 empty_atom else cell_value 0 (site_atom (empty_grid 8 8) s.x s.y))
        pick true = refl
        pick false = ap (cell_value 0) (sym (same_all empty_atom 64 (s.y * 8 + s.x)))

-- a run of one tile with one event
pub small_run : IsOver small_scene
unfolding played
small_run = record {
  valid = small_map;
  grid = small_grid;
  fits = small_fits;
  plan = small_plan;
  lists = refl;
  count = refl;
  numbers = number;
  ended = end;
  known = refl;
  histories = λ e lt. absurd (omega (arith, lt));
}
  where
    number : (t : ℕ) (tile : TileValue) → slice_get (small_tile ∷ []) t ≡ Some tile → tile.number ≡ t
    number zero tile is = let same : small_tile ≡ tile = cc (is) in ap (λ (u : TileValue). u.number) (sym same)
    number (suc t) tile is = absurd (cc (is))

    end : (t : ℕ) (tile : TileValue) → slice_get (small_tile ∷ []) t ≡ Some tile → HasEnded (common small_plane stays (atoms_of (empty_grid 8 8))) (slice_index_or ((first_attempt ∷ []) ∷ []) t []) (lists_at small_plane [] t) tile
    end zero tile is = let same : small_tile ≡ tile = cc (is) in subst (HasEnded (common small_plane stays (atoms_of (empty_grid 8 8))) (first_attempt ∷ []) (lists_at small_plane [] 0)) same (record { made = first_attempt ∷ []; rest = []; all = refl; played = played; ends = (refl, tt); cells = cells })
    end (suc t) tile is = absurd (cc (is))
