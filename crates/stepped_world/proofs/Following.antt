-- Tiles that follow the stepped machine: one step, one run of steps after another, and a tile that stands still.
use Rattle.std.proofs.Common.{◌≡◌, ℕ, zero, suc, ◌+◌, ◌*◌, ◌<◌, ◌≤◌, Bool, true, false, true≢false, List, [], ◌∷◌, ◌++◌, length, map, refl, sym, ap, ◌∙◌, subst, arith, inl, inr, ⊎_elim, Option, Some, None}
use Rattle.std.specs.Prelude.{nat_lt, slice_get, slice_set}
use Rattle.std.specs.List.{range_with_len}
use Rattle.std.proofs.lemmas.Option.{slice_get_within, same_Some, none-some}
use Rattle.std.proofs.lemmas.Bool.{cases_eq}
use Rattle.list_laws.proofs.Slots.{get_set_same, get_set_other}
use Rattle.window_sites.specs.Window.{WindowValue}
use Rattle.tile_map.specs.Plane.{MapValue, site}
use Rattle.tile_map.specs.Edges.{needs_of}
use Rattle.tile_map.specs.Laws.{IsPlane}
use Rattle.draw_stream.specs.Plans.{attempts}
use Rattle.edge_lock.specs.declared.board.Take.{Take}
use Rattle.edge_lock.specs.declared.board.Take.TheVariants.{Got, Busy}
use Rattle.edge_lock.specs.PlainBoard.{PlainBoardValue, plain_board_value, edge_at, size_of, end_on, lists_on, lists_of_tile}
use Rattle.edge_lock.proofs.PlainHistory.{sizes_stay}
use Rattle.tile_core.specs.declared.phase.Phase.{Phase}
use Rattle.tile_core.specs.declared.phase.Phase.TheVariants.{Draw, Lock, Refresh, Behave, Write, Give, Back, Finished, Worn}
use Rattle.tile_core.specs.Values.{TileWith, TileValue, atoms_of}
use Rattle.tile_core.specs.Underway.{tile_at, IsUnderway}
use Rattle.tile_core.specs.Steps.{rules_of, StepsIn, WearsOut, Renews, first_phase, tile_with_edge, tile_after_try, tile_after_give, is_over, steps_in}
use Rattle.tile_core.proofs.Falls.{steps_fall}
use Rattle.stepped_world.specs.Machine.{Machine, Doing, Done, step, step_in, steps, finish_tile, finish}
use Rattle.stepped_world.specs.Matching.{doing_in, IsEdgeIn, Matches}
use Rattle.serial_order.specs.Scene.{on_map}
use Rattle.event_journal.specs.Serial.{Course}
use Rattle.stepped_world.specs.Running.{AreUnderway, is_still, stands_still, steps_ahead, AnyIsWorn, IsLike, AreLike, on_board, Act, step_of, steps_by, rest_of, rest_by, Follows}
use Rattle.tile_core.specs.Turns.{common}
use Rattle.stepped_world.proofs.Finishing.{finishing, finished}
use Rattle.stepped_world.proofs.Stepping.{Advances, turned, steps_on}
use Rattle.stepped_world.proofs.Likeness.{step_like, writes_own}
use Rattle.stepped_world.proofs.Sound.{step_sound}

none_inside : {A : Type 0} (xs : List A) (t : ℕ) → t < length xs → slice_get xs t ≡ None → ⊥
none_inside [] t lt e = absurd (omega (arith, lt))
none_inside (x ∷ xs) zero lt e = absurd (cc e)
none_inside (x ∷ xs) (suc t) lt e = none_inside xs t (omega (arith, lt)) e

steps_more : (m : MapValue) (meaning : WindowValue → ℕ → WindowValue) (ts : List ℕ) (t : ℕ) (s : Machine) → steps m meaning (ts ++ t ∷ []) s ≡ step m meaning t (steps m meaning ts s)
steps_more m meaning [] t s = refl
steps_more m meaning (u ∷ ts) t s = steps_more m meaning ts t (step m meaning u s)

finish_more : (m : MapValue) (meaning : WindowValue → ℕ → WindowValue) (ts : List ℕ) (t : ℕ) (s : Machine) → finish m meaning (ts ++ t ∷ []) s ≡ finish_tile m meaning t (finish m meaning ts s)
finish_more m meaning [] t s = refl
finish_more m meaning (u ∷ ts) t s = finish_more m meaning ts t (finish_tile m meaning u s)

range_more : (a n : ℕ) → range_with_len a (suc n) ≡ range_with_len a n ++ (a + n) ∷ []
range_more a zero = let e : a ≡ a + 0 = omega arith in ap (λ k. k ∷ []) e
range_more a (suc n) = let e : a + 1 + n ≡ a + suc n = omega arith in ap (λ xs. a ∷ xs) (range_more (a + 1) n ∙ ap (λ k. range_with_len (a + 1) n ++ k ∷ []) e)

module _ {B : Type 0} (after : B → WindowValue → ℕ → WindowValue) (m : MapValue) where
  -- first the one, then the other
  pub then_on : (xs ys zs : List (TileWith B)) (a b c : PlainBoardValue) (f g h : Act) → ((meaning : WindowValue → ℕ → WindowValue) (s : Machine) → h m meaning s ≡ g m meaning (f m meaning s))
      → Follows after m (on_board xs a) (on_board ys b) f → Follows after m (on_board ys b) (on_board zs c) g → Follows after m (on_board xs a) (on_board zs c) h
  then_on xs ys zs a b c f g h same p q = record {
    underway = λ k u. q.underway k (p.underway k u);
    like = λ k s u l. subst (AreLike (on_map m k) zs c) (sym (same k.meaning s)) (q.like k (f m k.meaning s) (p.underway k u) (p.like k s u l));
    still = λ t e. q.still t (p.still t e);
    sizes = q.sizes ∙ p.sizes;
  }

  -- nothing was done
  pub stays : (xs : List (TileWith B)) (a : PlainBoardValue) (f : Act) → ((meaning : WindowValue → ℕ → WindowValue) (s : Machine) → f m meaning s ≡ s) → Follows after m (on_board xs a) (on_board xs a) f
  stays xs a f same = record {
    underway = λ k u. u;
    like = λ k s u l. subst (AreLike (on_map m k) xs a) (sym (same k.meaning s)) l;
    still = λ t e. e;
    sizes = refl;
  }

  still_phase : (tile : TileValue) (p : Phase) (d : Doing) → doing_in tile p ≡ Some d → is_still p ≡ true → d ≡ Done
  still_phase tile Draw d e h = absurd (true≢false (sym h))
  still_phase tile Lock d e h = absurd (true≢false (sym h))
  still_phase tile Refresh d e h = absurd (true≢false (sym h))
  still_phase tile Behave d e h = absurd (true≢false (sym h))
  still_phase tile Write d e h = absurd (true≢false (sym h))
  still_phase tile Give d e h = absurd (true≢false (sym h))
  still_phase tile Back d e h = absurd (true≢false (sym h))
  still_phase tile Finished d e h = sym (same_Some Done d e)
  still_phase tile Worn d e h = absurd (none-some d e)

  rests_there : (xs : List (TileWith B)) (a : PlainBoardValue) (t : ℕ) (x : TileWith B) → slice_get xs t ≡ Some x → is_still x.core.phase ≡ true → Follows after m (on_board xs a) (on_board xs a) (rest_of t)
  rests_there xs a t x is h = record {
    underway = λ k u. u;
    like = λ k s u l. ⊎_elim
        (λ (z : IsLike (on_map m k) xs a s). let there = z.matches.tiles_are t x is in
        inl (subst (IsLike (on_map m k) xs a) (sym (finished m k.meaning t s (still_phase x.core x.core.phase (s.tile t).doing there.doing h))) z))
        (λ w. inr w) l;
    still = λ v e. e;
    sizes = refl;
  }

  -- a tile that stands still is finished
  pub rests : (xs : List (TileWith B)) (a : PlainBoardValue) (t : ℕ) → t < length xs → stands_still (slice_get xs t) ≡ true → Follows after m (on_board xs a) (on_board xs a) (rest_of t)
  rests xs a t lt h = go (slice_get xs t) refl h
    where
      go : (o : Option (TileWith B)) → slice_get xs t ≡ o → stands_still o ≡ true → Follows after m (on_board xs a) (on_board xs a) (rest_of t)
      go None is q = absurd (none_inside xs t lt is)
      go (Some x) is q = rests_there xs a t x is q

  passed_over : (xs : List (TileWith B)) (a : PlainBoardValue) (t : ℕ) (x : TileWith B) → slice_get xs t ≡ Some x → is_still x.core.phase ≡ true → Follows after m (on_board xs a) (on_board xs a) (step_of t)
  passed_over xs a t x is h = record {
    underway = λ k u. u;
    like = λ k s u l. ⊎_elim
        (λ (z : IsLike (on_map m k) xs a s). let there = z.matches.tiles_are t x is in
        inl (subst (IsLike (on_map m k) xs a) (sym (ap (step_in m k.meaning t s) (still_phase x.core x.core.phase (s.tile t).doing there.doing h))) z))
        (λ w. inr w) l;
    still = λ v e. e;
    sizes = refl;
  }

  -- a step of a tile that stands still does nothing
  pub still_step : (xs : List (TileWith B)) (a : PlainBoardValue) (t : ℕ) → t < length xs → stands_still (slice_get xs t) ≡ true → Follows after m (on_board xs a) (on_board xs a) (step_of t)
  still_step xs a t lt h = go (slice_get xs t) refl h
    where
      go : (o : Option (TileWith B)) → slice_get xs t ≡ o → stands_still o ≡ true → Follows after m (on_board xs a) (on_board xs a) (step_of t)
      go None is q = absurd (none_inside xs t lt is)
      go (Some x) is q = passed_over xs a t x is q

  module _ (tiles : List (TileWith B)) (t : ℕ) (x y : TileWith B) (a b c : PlainBoardValue) (plane : IsPlane m) (is : slice_get tiles t ≡ Some x) (same : b.edges ≡ a.edges) (d : Advances after m t x y b c) where
    there : t < length tiles
    there = slice_get_within tiles t x is

    -- at the end nothing happens
    rested : is_still x.core.phase ≡ true → y.core ≡ x.core
    rested h = go x.core.phase h d.step
      where
        go : (p : Phase) → is_still p ≡ true → StepsIn (rules_of m (after x.behave) (end_on b)) (tile_at x.core (lists_on b)) (tile_at y.core (lists_on c)) p → y.core ≡ x.core
        go Draw e s = absurd (true≢false (sym e))
        go Lock e s = absurd (true≢false (sym e))
        go Refresh e s = absurd (true≢false (sym e))
        go Behave e s = absurd (true≢false (sym e))
        go Write e s = absurd (true≢false (sym e))
        go Give e s = absurd (true≢false (sym e))
        go Back e s = absurd (true≢false (sym e))
        go Finished e s = s.is
        go Worn e s = s.is

    worn_stays : AnyIsWorn tiles → AnyIsWorn (slice_set tiles t y)
    worn_stays w = ⊎_elim {C = AnyIsWorn (slice_set tiles t y)}
        (λ (e : w.0 ≡ t).
        let z : w.1 ≡ x = same_Some w.1 x (sym w.2 ∙ (ap (slice_get tiles) e ∙ is)) in
        let worn : x.core.phase ≡ Worn = ap (λ (v : TileWith B). v.core.phase) (sym z) ∙ w.3 in
        (t, y, get_set_same tiles t y there, ap (λ (v : TileValue). v.phase) (rested (ap is_still worn)) ∙ worn))
        (λ ne. (w.0, w.1, get_set_other tiles t w.0 y ne ∙ w.2, w.3))
        (cases_eq w.0 t)

    still_stays : (v : ℕ) → stands_still (slice_get tiles v) ≡ true → stands_still (slice_get (slice_set tiles t y) v) ≡ true
    still_stays v h = ⊎_elim {C = stands_still (slice_get (slice_set tiles t y) v) ≡ true}
        (λ (e : v ≡ t).
        let at_rest : is_still x.core.phase ≡ true = ap stands_still (sym (ap (slice_get tiles) e ∙ is)) ∙ h in
        ap (λ n. stands_still (slice_get (slice_set tiles t y) n)) e ∙ (ap stands_still (get_set_same tiles t y there) ∙ (ap (λ (z : TileValue). is_still z.phase) (rested at_rest) ∙ at_rest)))
        (λ ne. ap stands_still (get_set_other tiles t v y ne) ∙ h)
        (cases_eq v t)

    matches_turned : (s : Machine) → Matches m tiles a s → Matches m tiles b s
    matches_turned s k = record {
      tiles_are = k.tiles_are;
      records = k.records;
      abandoned = k.abandoned;
      edges = λ e lt. subst (λ es. IsEdgeIn m e (edge_at (plain_board_value 0 es) e).holds (s.edge e)) (sym same) (k.edges e lt);
    }

    -- one step of one tile
    pub one_step : Follows after m (on_board tiles a) (on_board (slice_set tiles t y) c) (step_of t)
    one_step = record {
      underway = λ g u. steps_on after m g tiles t x y b c (turned after m g tiles a b same u) is d;
      like = λ g s u l. ⊎_elim {C = AreLike (on_map m g) (slice_set tiles t y) c (step m g.meaning t s)}
          (λ (k : IsLike (on_map m g) tiles a s).
          let v = turned after m g tiles a b same u in
          let z = matches_turned s k.matches in
          ⊎_elim {C = AreLike (on_map m g) (slice_set tiles t y) c (step m g.meaning t s)}
          (λ w. inl (record { matches = w; sound = step_sound m plane g t s k.sound (writes_own after m g tiles t x y b c v is d s z) }))
          (λ w. inr w)
          (step_like after m g tiles t x y b c v is d s z))
          (λ w. inr (worn_stays w)) l;
      still = still_stays;
      sizes = sizes_stay b c d.moved ∙ ap (map size_of) same;
    }

    same_left : (p : Phase) → is_over p ≡ false → StepsIn (rules_of m (after x.behave) (end_on b)) (tile_at x.core (lists_on b)) (tile_at y.core (lists_on c)) p → y.core.left ≡ x.core.left
    same_left Draw f s = absurd (true≢false f)
    same_left Lock f s = ap (λ (z : TileValue). z.left) s.is ∙ by s.answer
      where
        got_left : (q : Bool) → (tile_with_edge q x.core).left ≡ x.core.left
        got_left true = refl
        got_left false = refl

        by : (r : Take) → (tile_after_try m x.core r).left ≡ x.core.left
        by Got = got_left (nat_lt (x.core.next + 1) (length x.core.needs))
        by (Busy j) = refl
    same_left Refresh f s = ⊎_elim (λ (w : WearsOut x.core y.core s.top s.between (lists_on c)). ap (λ (z : TileValue). z.left) w.is) (λ (w : Renews x.core y.core s.top s.between (lists_on c)). ap (λ (z : TileValue). z.left) w.is) s.step
    same_left Behave f s = ap (λ (z : TileValue). z.left) s.0.is
    same_left Write f s = ap (λ (z : TileValue). z.left) s.is
    same_left Give f s = ap (λ (z : TileValue). z.left) s.is ∙ by (nat_lt (x.core.next + 1) (length x.core.needs))
      where
        by : (q : Bool) → (tile_after_give q x.core).left ≡ x.core.left
        by true = refl
        by false = refl
    same_left Back f s = ap (λ (z : TileValue). z.left) s.is ∙ by (nat_lt (x.core.next + 1) x.core.count)
      where
        by : (q : Bool) → (tile_after_give q x.core).left ≡ x.core.left
        by true = refl
        by false = refl
    same_left Finished f s = absurd (true≢false f)
    same_left Worn f s = absurd (true≢false f)

    begun_steps : (z : TileValue) (needs : List ℕ) → z.needs ≡ needs → z.phase ≡ first_phase needs → length needs ≤ 8 → steps_in z z.phase ≤ 48
    begun_steps z needs same is few = subst (λ p. steps_in z p ≤ 48) (sym is) (go needs same few)
      where
        go : (es : List ℕ) → z.needs ≡ es → length es ≤ 8 → steps_in z (first_phase es) ≤ 48
        go [] e le = omega arith
        go (d ∷ es) e le = omega (arith, ap length e, le)

    -- a step that does something leaves fewer
    pub fewer : (g : Course) → AreUnderway after (on_map m g) tiles a → stands_still (slice_get tiles t) ≡ false → steps_ahead (slice_get (slice_set tiles t y) t) < steps_ahead (slice_get tiles t)
    fewer g u h = subst (λ (p : Option (TileWith B) × Option (TileWith B)). steps_ahead p.1 < steps_ahead p.0) (λ i. (sym is i, sym (get_set_same tiles t y there) i)) (go x.core.phase refl (ap stands_still (sym is) ∙ h) d.step)
      where
        before : IsUnderway (common m (after x.behave) (atoms_of g.start)) (attempts g.plan t) x.core (lists_on b)
        before =
            let k = (turned after m g tiles a b same u).each t x is in
            subst (λ (p : (WindowValue → ℕ → WindowValue) × ℕ). IsUnderway (common m p.0 (atoms_of g.start)) (attempts g.plan t) x.core (lists_of_tile b p.1)) (λ i. (sym (u.meanings t x is) i, sym d.acting i)) k.underway

        falls : is_over x.core.phase ≡ false → 50 * length y.core.left + steps_in y.core y.core.phase < 50 * length x.core.left + steps_in x.core x.core.phase
        falls f =
            let l = same_left x.core.phase f d.step in
            let less : steps_in y.core y.core.phase < steps_in x.core x.core.phase = steps_fall m (after x.behave) (atoms_of g.start) (attempts g.plan t) x.core (lists_on b) before (end_on b) y.core (lists_on c) f d.step in
            omega (arith, ap length l, less)

        go : (p : Phase) → x.core.phase ≡ p → is_still p ≡ false → StepsIn (rules_of m (after x.behave) (end_on b)) (tile_at x.core (lists_on b)) (tile_at y.core (lists_on c)) p → 50 * length y.core.left + steps_in y.core y.core.phase < 50 * length x.core.left + steps_in x.core x.core.phase
        go Draw now e s =
            let n = s.0 in
            let few : length y.core.needs ≤ 8 = (d.on (atoms_of g.start) (attempts g.plan t) before).0.needs.few in
            let needs : y.core.needs ≡ needs_of m x.core.number (site y.core.x y.core.y) = ap (λ (z : TileValue). z.needs) n.begins.is in
            let phase : y.core.phase ≡ first_phase (needs_of m x.core.number (site y.core.x y.core.y)) = ap (λ (z : TileValue). z.phase) n.begins.is in
            let left : length x.core.left ≡ suc (length y.core.left) = ap length n.first ∙ sym (ap (λ (z : TileValue). suc (length z.left)) n.begins.is) in
            let small = begun_steps y.core (needs_of m x.core.number (site y.core.x y.core.y)) needs phase (subst (λ es. length es ≤ 8) needs few) in
            omega (arith, left, small)
        go Lock now e s = falls (ap is_over now)
        go Refresh now e s = falls (ap is_over now)
        go Behave now e s = falls (ap is_over now)
        go Write now e s = falls (ap is_over now)
        go Give now e s = falls (ap is_over now)
        go Back now e s = falls (ap is_over now)
        go Finished now e s = absurd (true≢false e)
        go Worn now e s = absurd (true≢false e)

  -- one of a list of steps more
  pub more_steps : (xs ys zs : List (TileWith B)) (a b c : PlainBoardValue) (ts : List ℕ) (t : ℕ) → Follows after m (on_board xs a) (on_board ys b) (steps_by ts) → Follows after m (on_board ys b) (on_board zs c) (step_of t) → Follows after m (on_board xs a) (on_board zs c) (steps_by (ts ++ t ∷ []))
  more_steps xs ys zs a b c ts t p q = then_on xs ys zs a b c (steps_by ts) (step_of t) (steps_by (ts ++ t ∷ [])) (λ meaning s. steps_more m meaning ts t s) p q

  -- what is left of finishing a tile, after one step of it
  pub step_of_finish : (xs ys zs : List (TileWith B)) (a b c : PlainBoardValue) (t : ℕ) → Follows after m (on_board xs a) (on_board ys b) (step_of t) → Follows after m (on_board ys b) (on_board zs c) (rest_of t) → Follows after m (on_board xs a) (on_board zs c) (rest_of t)
  step_of_finish xs ys zs a b c t p q = then_on xs ys zs a b c (step_of t) (rest_of t) (rest_of t) (λ meaning s. sym (finishing m meaning t s)) p q

  -- one tile more is finished
  pub more_finished : (xs ys zs : List (TileWith B)) (a b c : PlainBoardValue) (n : ℕ) → Follows after m (on_board xs a) (on_board ys b) (rest_by (range_with_len 0 n)) → Follows after m (on_board ys b) (on_board zs c) (rest_of n)
      → Follows after m (on_board xs a) (on_board zs c) (rest_by (range_with_len 0 (n + 1)))
  more_finished xs ys zs a b c n p q = then_on xs ys zs a b c (rest_by (range_with_len 0 n)) (rest_of n) (rest_by (range_with_len 0 (n + 1))) same p q
    where
      same : (meaning : WindowValue → ℕ → WindowValue) (s : Machine) → finish m meaning (range_with_len 0 (n + 1)) s ≡ finish_tile m meaning n (finish m meaning (range_with_len 0 n) s)
      same meaning s = let e : n + 1 ≡ suc n = omega arith in let z : 0 + n ≡ n = omega arith in
          ap (λ k. finish m meaning (range_with_len 0 k) s) e ∙ (ap (λ ts. finish m meaning ts s) (range_more 0 n ∙ ap (λ k. range_with_len 0 n ++ k ∷ []) z) ∙ finish_more m meaning (range_with_len 0 n) n s)
