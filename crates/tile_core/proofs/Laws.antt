-- The steps Draw, Lock, Give and Back keep a tile underway.
use Rattle.std.proofs.Common.{◌≡◌, ℕ, zero, suc, ◌+◌, ◌-◌, ◌<◌, ◌≤◌, Bool, true, false, List, [], ◌∷◌, ◌++◌, length, get_or, take, refl, sym, ap, ◌∙◌, subst, arith, inl, inr, ⊎_elim, Some}
use Rattle.std.specs.Prelude.{drop, slice_get, nat_lt}
use Rattle.std.proofs.lemmas.Bool.Decides.{nat_tests}
use Rattle.std.proofs.lemmas.List.{take_all, length-take, get_or-take, append-nil}
use Rattle.bit_field.specs.Atom.{AtomValue}
use Rattle.window_sites.specs.Window.{WindowValue}
use Rattle.tile_map.specs.Plane.{Site, MapValue, site, tiles_of, is_on, in_plane, owner_of}
use Rattle.tile_map.specs.Edges.{needs_of, has_end}
use Rattle.tile_map.specs.Laws.{IsPlane}
use Rattle.tile_map.proofs.Spans.{on_low}
use Rattle.list_laws.proofs.Tests.{together}
use Rattle.draw_stream.specs.declared.attempt.Attempt.{Attempt}
use Rattle.edge_lock.specs.declared.board.Take.{Take}
use Rattle.edge_lock.specs.declared.board.Take.TheVariants.{Got, Busy}
use Rattle.edge_lock.specs.EndLists.{EndLists, end_lists, IsHeld, IsFree, IsNew, HasNoWrite, hold_of, after_try, after_give, replace_at}
use Rattle.border_cache.specs.Windows.{has, end_at}
use Rattle.border_cache.specs.Copies.{IsCentre}
use Rattle.border_cache.proofs.Needs.{Rises, rises, has_at}
use Rattle.border_cache.proofs.Stored.{joined_end}
use Rattle.tile_core.specs.declared.phase.Phase.{Phase}
use Rattle.tile_core.specs.declared.phase.Phase.TheVariants.{Draw, Lock, Refresh, Give, Back}
use Rattle.tile_core.specs.Values.{TileValue, centre}
use Rattle.tile_core.specs.Turns.{before, Turn, Loses, Lost, turn_edges, AgreeOnEdges, lists_of, lists_left, with_more, IsLost, common, IsAttemptAt}
use Rattle.tile_core.specs.Underway.{Onward, IsUnderway, InPhase, IsDrawn, IsGiving, AreTurnsOver, HasOpen, no_access, still, is_refreshed, AreNeeds, tile_at}
use Rattle.tile_core.specs.Steps.{over, first_phase, refused_phase, Draws, Tries, Frees, next_edge, refused_entry, tile_after_refusal, tile_with_edge, tile_after_try, tile_after_give}
use Rattle.tile_core.proofs.Lists.{here_free, free_of, new_of, got_open, busy_left, all_left}
use Rattle.tile_core.proofs.Giving.{before_take, has_place, rises_take, giving_held, gave_on, gave_all, giving_quiet}

-- the first of the attempts that are left
pub drop_first : {A : Type 0} (n : ℕ) (xs ys : List A) (y : A) → y ∷ ys ≡ drop n xs → (slice_get xs n ≡ Some y) × (ys ≡ drop (suc n) xs)
drop_first zero [] ys y h = absurd (cc h)
drop_first (suc n) [] ys y h = absurd (cc h)
drop_first zero (x ∷ xs) ys y h = (cc h, cc h)
drop_first (suc n) (x ∷ xs) ys y h = drop_first n xs ys y h

-- the edges that an event of a tile needs
pub needs_of_tile : (m : MapValue) → IsPlane m → (t : ℕ) (c : Site) → t < tiles_of m → AreNeeds m t (needs_of m t c)
needs_of_tile m plane t c lt = record {
  rising = plane.needs.rising t c;
  few = plane.needs.few t c lt;
  ends = λ d h. let p = has_place d (needs_of m t c) h in let q = plane.needs.cause t c d p in joined_end m d t q.0 q.3;
}

module _ (m : MapValue) (meaning : WindowValue → ℕ → WindowValue) (start : Site → AtomValue) (attempts : List Attempt) where
  -- the attempt is over
  pub over_hand : (turns : List Turn) (tile : TileValue) (lists : ℕ → EndLists) → tile.taken ≡ length turns → AreTurnsOver m tile.number turns lists → InPhase (common m meaning start) attempts turns (tile_at tile lists) (over tile.left)
  over_hand turns tile lists taken ends = go tile.left refl
    where
      go : (left : List Attempt) → tile.left ≡ left → InPhase (common m meaning start) attempts turns (tile_at tile lists) (over left)
      go [] e = (taken, e, ends)
      go (a ∷ others) e = (taken, subst (λ xs. 0 < length xs) (sym e) (omega arith), ends)

  module _ (tile : TileValue) (a : ℕ → EndLists) (u : IsUnderway (common m meaning start) attempts tile a) where
    abbrev t : ℕ
    t = tile.number

    abbrev e : ℕ
    e = next_edge tile

    abbrev Next : TileValue → (ℕ → EndLists) → Type 0
    Next new b = Onward (common m meaning start) attempts u.turns (tile_at new b)

    -- drawing
    module _ (is : tile.phase ≡ Draw) (plane : IsPlane m) (new : TileValue) (d : Draws m tile new) where
      drawing : InPhase (common m meaning start) attempts u.turns (tile_at tile a) Draw
      drawing = subst (InPhase (common m meaning start) attempts u.turns (tile_at tile a)) is u.hand

      abbrev c : Site
      c = site new.x new.y

      taken_here : (slice_get attempts tile.taken ≡ Some d.attempt) × (d.rest ≡ drop (suc tile.taken) attempts)
      taken_here = drop_first tile.taken attempts d.rest d.attempt (sym d.first ∙ u.left)

      on : is_on m t ≡ true
      on = ⊎_elim (λ (h : attempts ≡ []). absurd (cc (taken_here.0, h))) (λ (h : is_on m t ≡ true). h) u.can.on

      centre_here : IsCentre m t c
      centre_here = let owner : t ≡ owner_of m c = plane.owners.one t c d.begins.owned in
          record { live = together (in_plane m c) (is_on m (owner_of m c)) d.begins.inside (subst (λ k. is_on m k ≡ true) owner on); owned = sym owner }

      needs_are : AreNeeds m t (needs_of m t c)
      needs_are = needs_of_tile m plane t c (on_low m t on)

      abbrev after : Phase → TileValue
      after p = record tile { left = d.rest; taken = tile.taken + 1; x = new.x; y = new.y; seed = d.attempt.seed; needs = needs_of m t c; next = 0; phase = p }

      made : IsAttemptAt m t (slice_get attempts (length u.turns)) c d.attempt.seed
      made = record { attempt = d.attempt; is = ap (slice_get attempts) (sym drawing.0) ∙ taken_here.0; site_is = d.begins.site_is; seed_is = refl }

      drawn : (p : Phase) → IsDrawn m attempts u.turns (after p)
      drawn p = record { taken = ap (λ n. n + 1) drawing.0; made = made; centre_is = centre_here; needs = refl }

      open_none : AgreeOnEdges m t a (λ d. with_more [] [] (lists_of m t u.turns d))
      open_none d own = drawing.2 d own ∙ (λ i. end_lists (sym (append-nil (lists_of m t u.turns d).holds) i) (sym (append-nil (lists_of m t u.turns d).refusals) i))

      begin : (es : List ℕ) → needs_of m t c ≡ es → InPhase (common m meaning start) attempts u.turns (tile_at (after (first_phase es)) a) (first_phase es)
      begin [] none = (drawn Refresh, subst (λ es. HasOpen m u.turns (tile_at tile a) es no_access) (sym none) open_none)
      begin (f ∷ fs) some = (drawn Lock, subst (λ es. 0 < length es) (sym some) (omega arith), open_none)

      begun_unrefreshed : (es : List ℕ) → is_refreshed (first_phase es) ≡ false
      begun_unrefreshed [] = refl
      begun_unrefreshed (f ∷ fs) = refl

      draws_on : Next (after (first_phase (needs_of m t c))) a
      draws_on = (
        record {
          turns = u.turns;
          each = u.each;
          made = u.made;
          records = u.records;
          abandoned = u.abandoned;
          stamp = u.stamp;
          unworn = u.unworn;
          needs = needs_are;
          map = u.map;
          owner = u.owner;
          can = u.can;
          left = taken_here.1 ∙ ap (λ n. drop n attempts) (let q : suc tile.taken ≡ tile.taken + 1 = omega arith in q);
          cells = λ s h k. u.cells s h (inl (ap is_refreshed is));
          hand = begin (needs_of m t c) refl;
        },
        inl refl,
      )

      pub drawn_on : Next new a
      drawn_on = subst (λ w. Next w a) (sym d.begins.is) draws_on

    -- trying an edge
    module _ (is : tile.phase ≡ Lock) where
      pub locking : InPhase (common m meaning start) attempts u.turns (tile_at tile a) Lock
      locking = subst (InPhase (common m meaning start) attempts u.turns (tile_at tile a)) is u.hand

      pub lock_lt : tile.next < length tile.needs
      lock_lt = locking.1

      pub lock_taken : 1 ≤ tile.taken
      lock_taken = let k = locking.0.taken in omega (arith, k)

      lock_mine : has_end m t e ≡ true
      lock_mine = u.needs.ends e (has_at tile.next tile.needs lock_lt)

      here : a e ≡ lists_of m t u.turns e
      here = here_free m tile tile.next e u.turns tile.needs a a (rises tile.needs u.needs.rising) locking.1 refl lock_mine locking.2

      pub lock_free : IsFree (a e)
      lock_free = subst IsFree (sym here) (free_of m meaning start t u.turns e u.each u.unworn)

      pub lock_new : IsNew (tile.taken - 1) (a e)
      lock_new = let taken = locking.0.taken in subst (IsNew (tile.taken - 1)) (sym here) (new_of m meaning start t u.turns e (tile.taken - 1) (omega (arith, taken)) u.each u.unworn)

      -- the attempt's number
      number : tile.taken - 1 ≡ length u.turns
      number = let taken = locking.0.taken in omega (arith, taken)

      module _ (b : ℕ → EndLists) (k : ℕ) (end : k ≡ end_at m t e) where
        opened : b ≡ replace_at a e (after_try k (tile.taken - 1) Got (a e)) → HasOpen m u.turns (tile_at tile b) (take (tile.next + 1) tile.needs) no_access
        opened won = got_open m tile tile.next e u.turns tile.needs a b (rises tile.needs u.needs.rising) locking.1 refl lock_mine locking.2 k end (won ∙ ap (λ i. replace_at a e (after_try k i Got (a e))) number)

        drawn_still : IsDrawn m attempts u.turns (record tile { next = tile.next + 1 })
        drawn_still = let d = locking.0 in record { taken = d.taken; made = d.made; centre_is = d.centre_is; needs = d.needs }

        lock_next : b ≡ replace_at a e (after_try k (tile.taken - 1) Got (a e)) → tile.next + 1 < length tile.needs → Next (record tile { next = tile.next + 1 }) b
        lock_next won less = (
          record {
            turns = u.turns;
            each = u.each;
            made = u.made;
            records = u.records;
            abandoned = u.abandoned;
            stamp = u.stamp;
            unworn = u.unworn;
            needs = u.needs;
            map = u.map;
            owner = u.owner;
            can = u.can;
            left = u.left;
            cells = u.cells;
            hand = subst (InPhase (common m meaning start) attempts u.turns (tile_at (record tile { next = tile.next + 1 }) b)) (sym is) (drawn_still, less, opened won);
          },
          inl refl,
        )

        lock_last : b ≡ replace_at a e (after_try k (tile.taken - 1) Got (a e)) → length tile.needs ≤ tile.next + 1 → Next (record tile { phase = Refresh }) b
        lock_last won le = (
          record {
            turns = u.turns;
            each = u.each;
            made = u.made;
            records = u.records;
            abandoned = u.abandoned;
            stamp = u.stamp;
            unworn = u.unworn;
            needs = u.needs;
            map = u.map;
            owner = u.owner;
            can = u.can;
            left = u.left;
            cells = λ s h q. u.cells s h (inl (ap is_refreshed is));
            hand = let d = locking.0 in (
              record { taken = d.taken; made = d.made; centre_is = d.centre_is; needs = d.needs },
              subst (λ es. HasOpen m u.turns (tile_at tile b) es no_access) (take_all (tile.next + 1) tile.needs le) (opened won),
            );
          },
          inl refl,
        )

        -- the abandoned attempt
        abbrev lost : ℕ → Lost
        lost j = record { gone = refused_entry m tile e j; hold = λ d. hold_of (end_at m t d) (length u.turns) [] false }

        edges_before : (j : ℕ) → turn_edges m t (Loses (lost j)) ≡ take tile.next tile.needs
        edges_before j = ap (before e) (sym locking.0.needs) ∙ before_take tile.next tile.needs locking.1 (rises tile.needs u.needs.rising)

        needed : has e (needs_of m t (centre tile)) ≡ true
        needed = subst (λ es. has e es ≡ true) locking.0.needs (has_at tile.next tile.needs locking.1)

        is_lost : (j : ℕ) → IsLost m t u.turns (lost j)
        is_lost j = record { tile = refl; attempt = number; centre = locking.0.centre_is; needed = needed; holder = refl; given = λ d h. (record { end = refl; attempt_is = refl; closed = refl }, refl) }

        abbrev aim : ℕ → Phase → TileValue
        aim j p = record tile { abandoned = tile.abandoned ++ refused_entry m tile e j ∷ []; next = 0; count = tile.next; phase = p }

        lock_busy : (j : ℕ) → b ≡ replace_at a e (after_try k (tile.taken - 1) (Busy j) (a e)) → Next (tile_after_refusal m tile e j) b
        lock_busy j busy = (
          record {
            turns = (Loses (lost j) ∷ u.turns);
            each = (is_lost j, u.unworn, u.each);
            made = ((tile.seed, locking.0.made), u.made);
            records = u.records;
            abandoned = ap (λ xs. xs ++ refused_entry m tile e j ∷ []) u.abandoned;
            stamp = u.stamp;
            unworn = u.unworn;
            needs = u.needs;
            map = u.map;
            owner = u.owner;
            can = u.can;
            left = u.left;
            cells = λ s h q. u.cells s h (inl (ap is_refreshed is));
            hand = by_next tile.next refl;
          },
          inr (Loses (lost j), refl),
        )
          where
            taken : tile.taken ≡ length (Loses (lost j) ∷ u.turns)
            taken = let d = locking.0.taken in omega (arith, d)

            left : AgreeOnEdges m t b (lists_left m t (still (take tile.next tile.needs) 0) (Loses (lost j)) u.turns)
            left = busy_left m tile tile.next e u.turns tile.needs a b (rises tile.needs u.needs.rising) locking.1 refl lock_mine locking.2 k j (lost j) refl number refl (edges_before j) (λ d. refl)
                (busy ∙ ap (λ i. replace_at a e (after_try k i (Busy j) (a e))) number)

            by_next : (n : ℕ) → tile.next ≡ n → InPhase (common m meaning start) attempts (Loses (lost j) ∷ u.turns) (tile_at (aim j (refused_phase n tile.left)) b) (refused_phase n tile.left)
            by_next zero none = over_hand (Loses (lost j) ∷ u.turns) (aim j (over tile.left)) b taken
                (all_left m t (Loses (lost j)) u.turns (take tile.next tile.needs) b (sym (edges_before j)) (λ d h. refl) 0 (let z : length (take tile.next tile.needs) ≡ 0 = ap (λ n. length (take n tile.needs)) none in omega (arith, z)) left)
            by_next (suc n) some = let lt = locking.1 in (taken, omega (arith, some), omega (arith, lt), tt, (sym (edges_before j), left))

        tries_with : (r : Take) → b ≡ replace_at a e (after_try k (tile.taken - 1) r (a e)) → Next (tile_after_try m tile r) b
        tries_with Got lists = go (nat_lt (tile.next + 1) (length tile.needs)) refl
          where
            go : (x : Bool) → nat_lt (tile.next + 1) (length tile.needs) ≡ x → Next (tile_with_edge x tile) b
            go true test = lock_next lists (grind (arith, nat_tests, test))
            go false test = lock_last lists (grind (arith, nat_tests, test))
        tries_with (Busy j) lists = lock_busy j lists

      pub tries_on : (b : ℕ → EndLists) (end_of : ℕ → ℕ) (new : TileValue) → end_of e ≡ end_at m t e → Tries m end_of (tile_at tile a) (tile_at new b) → Next new b
      tries_on b end_of new end r = subst (λ w. Next w b) (sym r.is) (tries_with b (end_of e) end r.answer r.lists_are)

    -- giving back after an event
    module _ (is : tile.phase ≡ Give) where
      giving : InPhase (common m meaning start) attempts u.turns (tile_at tile a) Give
      giving = subst (InPhase (common m meaning start) attempts u.turns (tile_at tile a)) is u.hand

      pub give_lt : tile.next < length tile.needs
      give_lt = giving.1

      give_mine : has_end m t e ≡ true
      give_mine = u.needs.ends e (has_at tile.next tile.needs give_lt)

      pub give_held : IsHeld (a e)
      give_held = giving_held m tile e tile.needs a a (rises tile.needs u.needs.rising) giving.1 refl give_mine u.turns giving.2

      module _ (b : ℕ → EndLists) (given : b ≡ replace_at a e (after_give (a e))) where
        gave : IsGiving m u.turns (tile_at (record tile { next = tile.next + 1 }) b) tile.needs
        gave = gave_on m tile e tile.needs a b (rises tile.needs u.needs.rising) giving.1 refl give_mine u.turns giving.2 given

        give_with : (x : Bool) → nat_lt (tile.next + 1) (length tile.needs) ≡ x → Next (tile_after_give x tile) b
        give_with true test = (
          record {
            turns = u.turns;
            each = u.each;
            made = u.made;
            records = u.records;
            abandoned = u.abandoned;
            stamp = u.stamp;
            unworn = u.unworn;
            needs = u.needs;
            map = u.map;
            owner = u.owner;
            can = u.can;
            left = u.left;
            cells = u.cells;
            hand = subst (InPhase (common m meaning start) attempts u.turns (tile_at (record tile { next = tile.next + 1 }) b)) (sym is) (giving.0, grind (arith, nat_tests, test), gave);
          },
          inl refl,
        )
        give_with false test = (
          record {
            turns = u.turns;
            each = u.each;
            made = u.made;
            records = u.records;
            abandoned = u.abandoned;
            stamp = u.stamp;
            unworn = u.unworn;
            needs = u.needs;
            map = u.map;
            owner = u.owner;
            can = u.can;
            left = u.left;
            cells = λ s h q. u.cells s h (inl (ap is_refreshed is));
            hand = over_hand u.turns (record tile { phase = over tile.left }) b giving.0 (gave_all m meaning start (record tile { next = tile.next + 1 }) tile.needs b u.turns u.each u.unworn (grind (arith, nat_tests, test)) gave);
          },
          inl refl,
        )

      pub gives_on : (b : ℕ → EndLists) (new : TileValue) → Frees (length tile.needs) (tile_at tile a) (tile_at new b) → Next new b
      gives_on b new r = subst (λ w. Next w b) (sym r.is) (give_with b r.lists_are (nat_lt (tile.next + 1) (length tile.needs)) refl)

    -- giving back after a refusal
    module _ (is : tile.phase ≡ Back) where
      backing : InPhase (common m meaning start) attempts u.turns (tile_at tile a) Back
      backing = subst (InPhase (common m meaning start) attempts u.turns (tile_at tile a)) is u.hand

      abbrev had : List ℕ
      had = take tile.count tile.needs

      pub back_lt : (tile.next < tile.count) × (tile.count ≤ length tile.needs)
      back_lt = (backing.1, backing.2)

      long : length had ≡ tile.count
      long = let le = backing.2 in omega (arith, le, length-take {A = ℕ})

      up : Rises had
      up = rises_take tile.count tile.needs (rises tile.needs u.needs.rising)

      at_had : e ≡ get_or had tile.next 0
      at_had = sym (get_or-take tile.count tile.needs tile.next 0 backing.1)

      less_had : tile.next < length had
      less_had = let lt = backing.1 in omega (arith, lt, long)

      back_mine : has_end m t e ≡ true
      back_mine = let lt = back_lt in u.needs.ends e (has_at tile.next tile.needs (omega (arith, lt.0, lt.1)))

      pub back_held : IsHeld (a e) × HasNoWrite (a e)
      back_held = (giving_held m tile e had a a up less_had at_had back_mine u.turns backing.4, giving_quiet m tile e had a a up less_had at_had back_mine meaning start u.turns u.each backing.3 backing.4)

      module _ (b : ℕ → EndLists) (given : b ≡ replace_at a e (after_give (a e))) where
        gave_back : IsGiving m u.turns (tile_at (record tile { next = tile.next + 1 }) b) had
        gave_back = gave_on m tile e had a b up less_had at_had back_mine u.turns backing.4 given

        back_with : (x : Bool) → nat_lt (tile.next + 1) tile.count ≡ x → Next (tile_after_give x tile) b
        back_with true test = (
          record {
            turns = u.turns;
            each = u.each;
            made = u.made;
            records = u.records;
            abandoned = u.abandoned;
            stamp = u.stamp;
            unworn = u.unworn;
            needs = u.needs;
            map = u.map;
            owner = u.owner;
            can = u.can;
            left = u.left;
            cells = u.cells;
            hand = subst (InPhase (common m meaning start) attempts u.turns (tile_at (record tile { next = tile.next + 1 }) b)) (sym is) (backing.0, grind (arith, nat_tests, test), backing.2, backing.3, gave_back);
          },
          inl refl,
        )
        back_with false test = (
          record {
            turns = u.turns;
            each = u.each;
            made = u.made;
            records = u.records;
            abandoned = u.abandoned;
            stamp = u.stamp;
            unworn = u.unworn;
            needs = u.needs;
            map = u.map;
            owner = u.owner;
            can = u.can;
            left = u.left;
            cells = λ s h q. u.cells s h (inl (ap is_refreshed is));
            hand = let le : tile.count ≤ tile.next + 1 = grind (arith, nat_tests, test) in
                over_hand u.turns (record tile { phase = over tile.left }) b backing.0 (gave_all m meaning start (record tile { next = tile.next + 1 }) had b u.turns u.each u.unworn (omega (arith, long, le)) gave_back);
          },
          inl refl,
        )

      pub backs_on : (b : ℕ → EndLists) (new : TileValue) → Frees tile.count (tile_at tile a) (tile_at new b) → Next new b
      backs_on b new r = subst (λ w. Next w b) (sym r.is) (back_with b r.lists_are (nat_lt (tile.next + 1) tile.count) refl)
