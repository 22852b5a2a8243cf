-- A refresh edge by edge.
use Rattle.std.proofs.Common.{◌≡◌, ℕ, zero, suc, ◌+◌, ◌-◌, ◌<◌, eqb, Bool, true, false, cond, true≢false, List, [], ◌∷◌, ◌++◌, length, get_or, take, refl, sym, ap, ◌∙◌, subst, arith, Option, Some, None}
use Rattle.std.specs.Prelude.{if◌then◌else◌, ◌==◌}
use Rattle.std.specs.List.Sorted.{IsStrictlyIncreasing}
use Rattle.std.proofs.lemmas.Bool.Decides.{nat_tests}
use Rattle.std.proofs.lemmas.List.{take_more, length-take, get_or-take}
use Rattle.edge_lock.specs.declared.history.Access.{Access}
use Rattle.edge_lock.specs.EndLists.{EndLists, known_value}
use Rattle.edge_lock.proofs.BoardLaws.{here_after, else_after}
use Rattle.tile_map.specs.Plane.{Site, MapValue, is_held, in_window}
use Rattle.tile_map.specs.Edges.{window_site}
use Rattle.border_cache.specs.Cells.{CellValue, newer, newest}
use Rattle.border_cache.specs.Accesses.{IsHonest, after_all, Adds}
use Rattle.border_cache.specs.News.{found_cell, IsRefresh}
use Rattle.border_cache.specs.Windows.{has, place_in, end_at, sites_on, AddsAll, and_cell, seen_on, PublishesAll, border_at, centre_of}
use Rattle.border_cache.specs.Copies.{CacheValue, Refreshed, Refreshes, cell_for, copy_at, held_cell, window_cells}
use Rattle.border_cache.specs.Published.{IsPublish}
use Rattle.border_cache.proofs.Runs.{after_none}

abbrev pub Rises : List ℕ → Type 0
Rises xs = (j k : ℕ) → j < k → k < length xs → get_or xs j 0 < get_or xs k 0

by_gap : (xs : List ℕ) → IsStrictlyIncreasing xs → (g j : ℕ) → j + suc g < length xs → get_or xs j 0 < get_or xs (j + suc g) 0
by_gap xs up zero j less = subst (λ i. get_or xs j 0 < get_or xs i 0) (omega arith) (up j (omega (arith, less)))
by_gap xs up (suc g) j less =
    let a = by_gap xs up g j (omega (arith, less)) in
    let b = up (j + suc g) (omega (arith, less)) in
    let e : j + suc g + 1 ≡ j + suc (suc g) = omega arith in
    omega (arith, a, b, ap (λ i. get_or xs i 0) e)

-- rising numbers, by their distance
pub rises : (xs : List ℕ) → IsStrictlyIncreasing xs → Rises xs
rises xs up j k lt less = subst (λ i. get_or xs j 0 < get_or xs i 0) (omega (arith, lt)) (by_gap xs up (k - j - 1) j (omega (arith, lt, less)))

pub has_push : (e d : ℕ) (xs : List ℕ) → has e (xs ++ d ∷ []) ≡ (if e == d then true else has e xs)
has_push e d [] = grind (arith, nat_tests)
has_push e d (x ∷ xs) = grind (arith, nat_tests, has_push e d xs)

pub has_more : (e n : ℕ) (xs : List ℕ) → n < length xs → has e (take (n + 1) xs) ≡ (if e == get_or xs n 0 then true else has e (take n xs))
has_more e n xs lt = ap (has e) (take_more xs n 0 lt) ∙ has_push e (get_or xs n 0) (take n xs)

not_has_all : (e : ℕ) (xs : List ℕ) → ((k : ℕ) → k < length xs → get_or xs k 0 < e) → has e xs ≡ false
not_has_all e [] low = refl
not_has_all e (x ∷ xs) low = grind (arith, nat_tests, low 0 (omega arith), not_has_all e xs (λ k lt. low (suc k) (omega arith)))

pub has_at : (n : ℕ) (xs : List ℕ) → n < length xs → has (get_or xs n 0) xs ≡ true
has_at n [] lt = absurd (omega arith)
has_at zero (x ∷ xs) lt = grind (arith, nat_tests)
has_at (suc n) (x ∷ xs) lt = grind (arith, nat_tests, has_at n xs (omega arith))

below : (n k : ℕ) (xs : List ℕ) → n < length xs → Rises xs → k < n → get_or (take n xs) k 0 < get_or xs n 0
below n k xs lt rise h = omega (arith, get_or-take n xs k 0 h, rise k n h lt)

pub not_yet : (n : ℕ) (xs : List ℕ) → n < length xs → Rises xs → has (get_or xs n 0) (take n xs) ≡ false
not_yet n xs lt rise = not_has_all (get_or xs n 0) (take n xs) (λ k h. below n k xs lt rise (omega (arith, h, length-take {A = ℕ})))

-- the accesses on one edge, beside those on others
abbrev pub put_on : ℕ → List Access → (ℕ → List Access) → ℕ → List Access
put_on e xs more d = cond (d == e) xs (more d)

pub adds_all_begins : (a : ℕ → EndLists) → AddsAll a a [] (λ e. [])
adds_all_begins a = record { lists = λ e. after_none (a e); honest = λ e. tt; only = λ e h. refl }

module _ (needs : List ℕ) (i e : ℕ) (lt : i < length needs) (rise : Rises needs) (at : e ≡ get_or needs i 0) where
  pub fresh : has e (take i needs) ≡ false
  fresh = ap (λ x. has x (take i needs)) at ∙ not_yet i needs lt rise

  pub split_has : (d : ℕ) → has d (take (i + 1) needs) ≡ (if d == e then true else has d (take i needs))
  split_has d = has_more d i needs lt ∙ ap (λ x. if d == x then true else has d (take i needs)) (sym at)

  pub adds_all_more : (a b c : ℕ → EndLists) (more : ℕ → List Access) (xs : List Access) → AddsAll a b (take i needs) more → Adds b c e xs → AddsAll a c (take (i + 1) needs) (put_on e xs more)
  adds_all_more a b c more xs s t = record {
    lists = λ d. by_lists d (eqb d e) refl;
    honest = λ d. by_honest d (eqb d e) refl;
    only = λ d h. by_only d (eqb d e) refl (sym (split_has d) ∙ h);
  }
    where
      same : b e ≡ a e
      same = s.lists e ∙ (ap (λ ys. after_all ys (a e)) (s.only e fresh) ∙ sym (after_none (a e)))

      here : c e ≡ after_all xs (a e)
      here = here_after b c e (after_all xs (b e)) t.lists ∙ ap (after_all xs) same

      by_lists : (d : ℕ) (x : Bool) → eqb d e ≡ x → c d ≡ after_all (cond x xs (more d)) (a d)
      by_lists d true is = let q : e ≡ d = grind (arith, is) in subst (λ k. c k ≡ after_all xs (a k)) q here
      by_lists d false is = else_after b c e d (after_all xs (b e)) t.lists (grind (arith, is)) ∙ s.lists d

      by_honest : (d : ℕ) (x : Bool) → eqb d e ≡ x → IsHonest (known_value (a d)) (cond x xs (more d))
      by_honest d true is = let q : e ≡ d = grind (arith, is) in subst (λ k. IsHonest (known_value (a k)) xs) q (subst (λ l. IsHonest (known_value l) xs) same t.honest)
      by_honest d false is = s.honest d

      by_only : (d : ℕ) (x : Bool) → eqb d e ≡ x → (if x then true else has d (take i needs)) ≡ false → cond x xs (more d) ≡ []
      by_only d true is h = absurd (true≢false h)
      by_only d false is h = s.only d h

  -- what was seen on the edges before
  seen_before : (m : MapValue) (t : ℕ) (c : Site) (n : ℕ) (xs : List Access) (more : ℕ → List Access) (es : List ℕ) → has e es ≡ false → seen_on m t c (put_on e xs more) n es ≡ seen_on m t c more n es
  seen_before m t c n xs more [] h = refl
  seen_before m t c n xs more (d ∷ ds) h = go (eqb e d) refl h (seen_before m t c n xs more ds)
    where
      go : (x : Bool) → eqb e d ≡ x → (if x then true else has e ds) ≡ false → (has e ds ≡ false → seen_on m t c (put_on e xs more) n ds ≡ seen_on m t c more n ds)
          → and_cell (found_cell (sites_on m d) (end_at m t d) (put_on e xs more d) (place_in m c d n)) (seen_on m t c (put_on e xs more) n ds) ≡ and_cell (found_cell (sites_on m d) (end_at m t d) (more d) (place_in m c d n)) (seen_on m t c more n ds)
      go true is h f = absurd (true≢false h)
      go false is h f =
          let q : eqb d e ≡ false = grind (arith, is) in
          (λ j. and_cell (found_cell (sites_on m d) (end_at m t d) (cond (q j) xs (more d)) (place_in m c d n)) (f h j))

and_cells : Option CellValue → List CellValue → List CellValue → List CellValue
and_cells o xs ys = and_cell o (xs ++ ys)

push_seen : (m : MapValue) (t : ℕ) (c : Site) (n e : ℕ) (more : ℕ → List Access) (es : List ℕ) → seen_on m t c more n (es ++ e ∷ []) ≡ seen_on m t c more n es ++ and_cell (found_cell (sites_on m e) (end_at m t e) (more e) (place_in m c e n)) []
push_seen m t c n e more [] = refl
push_seen m t c n e more (d ∷ ds) = go (found_cell (sites_on m d) (end_at m t d) (more d) (place_in m c d n)) (push_seen m t c n e more ds)
  where
    go : (o : Option CellValue) → seen_on m t c more n (ds ++ e ∷ []) ≡ seen_on m t c more n ds ++ and_cell (found_cell (sites_on m e) (end_at m t e) (more e) (place_in m c e n)) []
        → and_cell o (seen_on m t c more n (ds ++ e ∷ [])) ≡ and_cell o (seen_on m t c more n ds) ++ and_cell (found_cell (sites_on m e) (end_at m t e) (more e) (place_in m c e n)) []
    go None h = h
    go (Some x) h = ap (λ ys. x ∷ ys) h

newest_push : (x : CellValue) (xs : List CellValue) (o : Option CellValue) → newest x (xs ++ and_cell o []) ≡ newer (newest x xs) o
newest_push x [] None = refl
newest_push x [] (Some d) = refl
newest_push x (y ∷ ys) o = newest_push (newer x (Some y)) ys o

-- one more edge of a refresh
module _ (c : Site) (needs : List ℕ) (i e : ℕ) (lt : i < length needs) (rise : Rises needs) (at : e ≡ get_or needs i 0) (a b d : ℕ → EndLists) (old mid new : CacheValue)
    (r : Refreshed c (take i needs) (copy_at old a) (copy_at mid b)) (s : Refreshes c e (copy_at mid b) (copy_at new d)) where
  abbrev m : MapValue
  m = old.map

  abbrev t : ℕ
  t = old.tile

  same_map : mid.map ≡ m
  same_map = r.stores.differs.map

  same_tile : mid.tile ≡ t
  same_tile = r.stores.differs.tile

  abbrev more' : ℕ → List Access
  more' = put_on e s.more r.more

  mine : more' e ≡ s.more
  mine = let q : eqb e e ≡ true = grind arith in ap (λ x. cond x s.more (r.more e)) q

  reads_here : IsRefresh (border_at m t c e) s.more
  reads_here = subst (λ (p : MapValue × ℕ). IsRefresh (border_at p.0 p.1 c e) s.more) (λ j. (same_map j, same_tile j)) s.reads

  reads_on : (f : ℕ) (x : Bool) → eqb f e ≡ x → (if x then true else has f (take i needs)) ≡ true → IsRefresh (border_at m t c f) (cond x s.more (r.more f))
  reads_on f true is h = let q : e ≡ f = grind (arith, is) in subst (λ k. IsRefresh (border_at m t c k) s.more) q reads_here
  reads_on f false is h = r.reads f h

  whole : (n : ℕ) → newest (window_cells old c n) (seen_on m t c more' n (take (i + 1) needs)) ≡ newer (newest (window_cells old c n) (seen_on m t c r.more n (take i needs))) (found_cell (sites_on m e) (end_at m t e) s.more (place_in m c e n))
  whole n =
      let own = window_cells old c n in
      let same : take (i + 1) needs ≡ take i needs ++ e ∷ [] = take_more needs i 0 lt ∙ ap (λ x. take i needs ++ x ∷ []) (sym at) in
      ap (λ es. newest own (seen_on m t c more' n es)) same
      ∙ (ap (newest own) (push_seen m t c n e more' (take i needs))
      ∙ (newest_push own (seen_on m t c more' n (take i needs)) (found_cell (sites_on m e) (end_at m t e) (more' e) (place_in m c e n))
      ∙ (λ j. newer (newest own (seen_before needs i e lt rise at m t c n s.more r.more (take i needs) (fresh needs i e lt rise at) j)) (found_cell (sites_on m e) (end_at m t e) (mine j) (place_in m c e n)))))

  done_at : (n : ℕ) (u : Site) → n < 41 → window_site m c n ≡ Some u → held_cell new u ≡ newest (window_cells old c n) (seen_on m t c more' n (take (i + 1) needs))
  done_at n u small is =
      let there : window_site mid.map c n ≡ Some u = ap (λ k. window_site k c n) same_map ∙ is in
      s.stores.done n u small there
      ∙ (ap (λ x. newer x (found_cell (sites_on mid.map e) (end_at mid.map mid.tile e) s.more (place_in mid.map c e n))) (ap (cell_for mid) there ∙ r.stores.done n u small is)
      ∙ ((λ j. newer (newest (window_cells old c n) (seen_on m t c r.more n (take i needs))) (found_cell (sites_on (same_map j) e) (end_at (same_map j) (same_tile j) e) s.more (place_in (same_map j) c e n)))
      ∙ sym (whole n)))

  others_stay : (u : Site) → is_held m t u ≡ true → in_window m c u ≡ false → held_cell new u ≡ held_cell old u
  others_stay u held out = s.stores.differs.others u ((λ j. is_held (same_map j) (same_tile j) u) ∙ held) (ap (λ k. in_window k c u) same_map ∙ out) ∙ r.stores.differs.others u held out

  pub refreshed_more : Refreshed c (take (i + 1) needs) (copy_at old a) (copy_at new d)
  refreshed_more = record {
    more = more';
    adds = adds_all_more needs i e lt rise at a b d r.more s.more r.adds s.adds;
    reads = λ f h. reads_on f (eqb f e) refl (sym (split_has needs i e lt rise at f) ∙ h);
    stores = record {
      differs = record { map = s.stores.differs.map ∙ same_map; tile = s.stores.differs.tile ∙ same_tile; others = others_stay };
      done = done_at;
    };
  }

module _ (m : MapValue) (t : ℕ) (c : Site) (needs : List ℕ) (cells : ℕ → CellValue) (i e : ℕ) (lt : i < length needs) (rise : Rises needs) (at : e ≡ get_or needs i 0) where
  pub publishes_all_more : (a b d : ℕ → EndLists) (xs : List Access) → PublishesAll (centre_of m t c) (take i needs) cells a b → Adds b d e xs → IsPublish (border_at m t c e) cells xs
      → PublishesAll (centre_of m t c) (take (i + 1) needs) cells a d
  publishes_all_more a b d xs r s w = record {
    more = put_on e xs r.more;
    adds = adds_all_more needs i e lt rise at a b d r.more xs r.adds s;
    writes = λ f h. go f (eqb f e) refl (sym (split_has needs i e lt rise at f) ∙ h);
  }
    where
      go : (f : ℕ) (x : Bool) → eqb f e ≡ x → (if x then true else has f (take i needs)) ≡ true → IsPublish (border_at m t c f) cells (cond x xs (r.more f))
      go f true is h = let q : e ≡ f = grind (arith, is) in subst (λ k. IsPublish (border_at m t c k) cells xs) q w
      go f false is h = r.writes f h

pub publishes_all_begin : (m : MapValue) (t : ℕ) (c : Site) (cells : ℕ → CellValue) (a : ℕ → EndLists) → PublishesAll (centre_of m t c) [] cells a a
publishes_all_begin m t c cells a = record { more = λ e. []; adds = adds_all_begins a; writes = λ e h. absurd (true≢false (sym h)) }
