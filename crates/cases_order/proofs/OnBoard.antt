-- One step of one of the tiles on a board leaves all of them underway there.
use Rattle.std.proofs.Common.{ℕ, zero, suc, ◌≡◌, ◌≢◌, ◌<◌, List, [], ◌∷◌, ◌++◌, All, length, map, get_or, refl, sym, ap, subst, ◌∙◌, ◌⊎◌, inl, inr, ⊎_elim, Option, Some, None}
use Rattle.std.specs.Prelude.{slice_get, slice_set}
use Rattle.std.specs.Option.{option_map}
use Rattle.std.proofs.lemmas.List.{length-set, length-map}
use Rattle.std.proofs.lemmas.Option.{slice_get_within, slice_get-map, slice_get-get_or, get_or_from_slice_get}
use Rattle.std.proofs.lemmas.Bool.{cases_eq}
use Rattle.list_laws.proofs.Slots.{get_set_same, get_set_other}
use Rattle.window_sites.specs.Window.{WindowValue}
use Rattle.tile_map.specs.Plane.{MapValue, IsMap, tiles_of}
use Rattle.edge_lock.specs.Edges.{sizes_of}
use Rattle.cell_grid.specs.Grid.{IsGrid}
use Rattle.draw_stream.specs.Plans.{IsPlan, attempts}
use Rattle.edge_lock.specs.PlainBoard.{PlainBoardValue, acting_end, lists_on, lists_of_tile, untouched_edge, Moved}
use Rattle.plane_grid.specs.PlaneGrids.{IsGridOf}
use Rattle.border_cache.specs.Copies.{IsEndOf}
use Rattle.tile_core.specs.Values.{TileWith, TileValue, atoms_of}
use Rattle.tile_core.specs.Underway.{tile_at, IsUnderway, IsSome, IsFreshTile, GoesOn, IsMade}
use Rattle.tile_core.specs.Boards.{IsBoardOf}
use Rattle.tile_core.proofs.Boards.{board_moved, board_turned, lists_turned, board_end, others_stay, board_new, fresh_there}
use Rattle.serial_order.specs.Boards.{HasStopped, HaveStopped}
use Rattle.serial_order.specs.Outcomes.{values_of, AreOver}
use Rattle.serial_order.specs.Words.{histories_on}
use Rattle.serial_order.proofs.Boards.{over}
use Rattle.cases_order.specs.Driven.{AreMade, IsTileOn, IsDriven}
use Rattle.tile_core.specs.Turns.{common}
use Rattle.serial_order.specs.Scene.{on_map, common_in}
use Rattle.event_journal.specs.Serial.{Course}

-- a list with one element more
get_more : {A : Type 0} (xs : List A) (y : A) (k : ℕ) (x : A) → slice_get (xs ++ y ∷ []) k ≡ Some x → (slice_get xs k ≡ Some x) ⊎ ((k ≡ length xs) × (y ≡ x))
get_more [] y zero x is = inr (refl, cc (is))
get_more [] y (suc k) x is = absurd (cc (is))
get_more (z ∷ xs) y zero x is = inl is
get_more (z ∷ xs) y (suc k) x is = ⊎_elim (λ e. inl e) (λ p. inr (ap suc p.0, p.1)) (get_more xs y k x is)

-- the tile makes no further step
abbrev pub IsDone : {B : Type 0} → TileWith B → Type 0
IsDone x = HasStopped x.core

module _ {B : Type 0} (after : B → WindowValue → ℕ → WindowValue) (m : MapValue) where
  -- one tile more
  pub one_fresh : (g : Course) (tiles tiles' : List (TileWith B)) (y : TileWith B) → tiles' ≡ tiles ++ y ∷ []
      → IsFreshTile m (length tiles) (atoms_of g.start) (attempts g.plan (length tiles)) y.core → after y.behave ≡ g.meaning → AreMade after (on_map m g) tiles → AreMade after (on_map m g) tiles'
  one_fresh g tiles tiles' y more new acts h = subst (AreMade after (on_map m g)) (sym more) (record {
    fresh = λ t x is. ⊎_elim (λ e. h.fresh t x e) (λ p. subst (λ (q : ℕ × (TileWith B)). IsFreshTile m q.0 (atoms_of g.start) (attempts g.plan q.0) q.1.core) (λ i. (sym p.0 i, p.1 i)) new) (get_more tiles y t x is);
    acts = λ t x is. ⊎_elim (λ e. h.acts t x e) (λ p. ap (λ (z : TileWith B). after z.behave) (sym p.1) ∙ acts) (get_more tiles y t x is);
  })

  -- tiles and a board that were only made
  pub driven_new : (g : Course) (tiles : List (TileWith B)) (board : PlainBoardValue) → IsMap m → IsGrid g.start → IsGridOf m g.start → IsPlan g.plan → length g.plan.lists ≡ tiles_of m
      → length tiles ≡ tiles_of m → AreMade after (on_map m g) tiles → board.edges ≡ map untouched_edge (sizes_of m) → IsDriven after m tiles board
  driven_new g tiles board valid grid fits plan_is lists count h made = record {
    course = g;
    valid = valid;
    grid = grid;
    fits = fits;
    plan_is = plan_is;
    lists = lists;
    count = count;
    edges = board_new m board made;
    each = λ t x is. record {
      number = (h.fresh t x is).number;
      underway = fresh_there m board made g.meaning t (atoms_of g.start) (attempts g.plan t) x.core (h.fresh t x is);
    };
    acts = h.acts;
  }

  module _ (tiles : List (TileWith B)) (b c : PlainBoardValue) (d : IsDriven after m tiles b) (t : ℕ) (inside : t < tiles_of m) (same : c.edges ≡ b.edges) (acting : c.acting ≡ t) where
    -- the board was turned to a tile
    turned : (v : ℕ) (x : TileWith B) → slice_get tiles v ≡ Some x → IsUnderway (common_in (on_map m d.course)) (attempts d.course.plan v) x.core (lists_of_tile c x.core.number)
    turned v x is = subst (λ lists. IsUnderway (common_in (on_map m d.course)) (attempts d.course.plan v) x.core lists) (sym (lists_turned b c x.core.number same)) (d.each v x is).underway

    board_is : IsBoardOf m c
    board_is = board_turned m b c same d.edges

    pub map_is : (x : TileWith B) → slice_get tiles t ≡ Some x → m ≡ x.core.cache.map
    map_is x is = sym (d.each t x is).underway.map

    acts_there : (x : TileWith B) → slice_get tiles t ≡ Some x → x.core.number ≡ c.acting
    acts_there x is = (d.each t x is).number ∙ sym acting

    underway_there : (x : TileWith B) → slice_get tiles t ≡ Some x → IsUnderway (common x.core.cache.map (after x.behave) (atoms_of d.course.start)) (attempts d.course.plan t) x.core (lists_on c)
    underway_there x is =
        subst (λ (p : MapValue × (WindowValue → ℕ → WindowValue) × ℕ). IsUnderway (common p.0 p.1 (atoms_of d.course.start)) (attempts d.course.plan t) x.core (lists_of_tile c p.2)) (λ i. (map_is x is i, sym (d.acts t x is) i, acts_there x is i)) (turned t x is)

    pub some_underway : (x : TileWith B) → slice_get tiles t ≡ Some x → IsSome x.core.cache.map (after x.behave) x.core (lists_on c)
    some_underway x is = (atoms_of d.course.start, attempts d.course.plan t, underway_there x is)

    pub end_there : (x : TileWith B) → slice_get tiles t ≡ Some x → IsEndOf x.core.cache.map x.core.number (acting_end c)
    end_there x is = subst (λ (p : MapValue × ℕ). IsEndOf p.0 p.1 (acting_end c)) (λ i. (map_is x is i, sym (acts_there x is) i)) (board_end m c board_is (subst (λ n. n < tiles_of m) (sym acting) inside))

    -- and the tile made a step
    module _ (x y : TileWith B) (is : slice_get tiles t ≡ Some x) (e : PlainBoardValue) (on : GoesOn x.core.cache.map (after x.behave) (tile_at x.core (lists_on c)) (tile_at y.core (lists_on e))) (number : y.core.number ≡ x.core.number) (acts : after y.behave ≡ after x.behave) (stays : e.acting ≡ c.acting) (moved : Moved c e) where
      here : IsTileOn (on_map m d.course) e t y.core
      here =
          let k = d.each t x is in
          let v = (on (atoms_of d.course.start) (attempts d.course.plan t) (underway_there x is)).0 in
          record {
            number = number ∙ k.number;
            underway = subst (λ (p : MapValue × (WindowValue → ℕ → WindowValue) × ℕ). IsUnderway (common p.0 p.1 (atoms_of d.course.start)) (attempts d.course.plan t) y.core (lists_of_tile e p.2)) (λ i. (sym (map_is x is) i, d.acts t x is i, (stays ∙ (acting ∙ sym (number ∙ k.number))) i)) v;
          }

      there : (v : ℕ) (z : TileWith B) → v ≢ t → slice_get tiles v ≡ Some z → IsTileOn (on_map m d.course) e v z.core
      there v z ne at = let k = d.each v z at in record {
        number = k.number;
        underway = (others_stay m d.course.meaning (atoms_of d.course.start) (attempts d.course.plan v) z.core c e board_is moved (λ q. ne (sym k.number ∙ (q ∙ acting))) (turned v z at)).0;
      }

      pub driven_on : IsDriven after m (slice_set tiles t y) e
      driven_on = record {
        course = d.course;
        valid = d.valid;
        grid = d.grid;
        fits = d.fits;
        plan_is = d.plan_is;
        lists = d.lists;
        count = length-set tiles t y ∙ d.count;
        edges = board_moved m c e moved board_is;
        each = λ v z at. by_tile (λ w (k : TileWith B). IsTileOn (on_map m d.course) e w k.core) here there v z at;
        acts = λ v z at. by_tile (λ w (k : TileWith B). after k.behave ≡ d.course.meaning) (acts ∙ d.acts t x is) (λ w k ne at'. d.acts w k at') v z at;
      }
        where
          by_tile : (P : ℕ → TileWith B → Type 0) → P t y → ((v : ℕ) (z : TileWith B) → v ≢ t → slice_get tiles v ≡ Some z → P v z) → (v : ℕ) (z : TileWith B) → slice_get (slice_set tiles t y) v ≡ Some z → P v z
          by_tile P mine others v z at = ⊎_elim
              (λ (q : v ≡ t). let same' : y ≡ z = cc (sym (get_set_same tiles t y (slice_get_within tiles t x is)) ∙ (ap (slice_get (slice_set tiles t y)) (sym q) ∙ at)) in
              subst (λ (p : ℕ × (TileWith B)). P p.0 p.1) (λ i. (sym q i, same' i)) mine)
              (λ (ne : v ≢ t). others v z ne (sym (get_set_other tiles t v y ne) ∙ at))
              (cases_eq v t)

  module _ (tiles : List (TileWith B)) (b : PlainBoardValue) (d : IsDriven after m tiles b) where
    pub all_made : All (λ x. IsMade m x.core) tiles
    all_made = λ k x lt.
        let y = get_or tiles k x in
        let is : slice_get tiles k ≡ Some y = slice_get-get_or tiles k x lt in
        (d.course.meaning, lists_of_tile b y.core.number, (atoms_of d.course.start, attempts d.course.plan k, (d.each k y is).underway))

    value_there : (t : ℕ) (v : TileValue) → slice_get (values_of tiles) t ≡ Some v → (x : TileWith B) × (slice_get tiles t ≡ Some x) × (x.core ≡ v)
    value_there t v is = go (slice_get tiles t) refl
      where
        go : (o : Option (TileWith B)) → slice_get tiles t ≡ o → (x : TileWith B) × (slice_get tiles t ≡ Some x) × (x.core ≡ v)
        go None e = absurd (cc (sym (slice_get-map (λ y. y.core) tiles t) ∙ is, ap (option_map (λ y. y.core)) e))
        go (Some x) e = (x, e, cc (sym (slice_get-map (λ y. y.core) tiles t) ∙ is, ap (option_map (λ y. y.core)) e))

    have_stopped : All IsDone tiles → HaveStopped (on_map m d.course) (values_of tiles) b
    have_stopped stopped = record {
      valid = d.valid;
      grid = d.grid;
      fits = d.fits;
      plan_is = d.plan_is;
      lists = d.lists;
      count = length-map tiles (λ y. y.core) ∙ d.count;
      edges = d.edges;
      numbers = λ t v is. let f = value_there t v is in ap (λ (z : TileValue). z.number) (sym f.2) ∙ (d.each t f.0 f.1).number;
      underway = λ t v is. let f = value_there t v is in subst (λ (z : TileValue). IsUnderway (common_in (on_map m d.course)) (attempts d.course.plan t) z (lists_of_tile b z.number)) f.2 (d.each t f.0 f.1).underway;
      stopped = λ t v is. let f = value_there t v is in subst HasStopped (ap (λ (z : TileWith B). z.core) (get_or_from_slice_get tiles t f.0 f.0 f.1) ∙ f.2) (stopped t f.0 (slice_get_within tiles t f.0 f.1));
    }

    pub are_over : All IsDone tiles → AreOver m (values_of tiles) (histories_on b)
    are_over stopped = (d.course, over (on_map m d.course) (values_of tiles) b (have_stopped stopped))
