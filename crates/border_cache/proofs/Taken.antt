-- Cells that are read at places of an edge and taken where they are newer, one after another.
use Rattle.std.proofs.Common.{◌≡◌, ◌≢◌, ℕ, ◌+◌, ◌*◌, ◌<◌, eqb, Bool, true, false, cond, true≢false, List, [], ◌∷◌, ◌++◌, refl, sym, ap, ◌∙◌, subst, arith, ◌⊎◌, inl, inr, ⊎_elim, Option, Some, None, ne_eqb}
use Rattle.std.specs.Prelude.{◌==◌}
use Rattle.std.proofs.lemmas.Option.{none-some}
use Rattle.std.proofs.lemmas.Bool.Decides.{nat_tests}
use mathlib.Core.Logic.{dite}
use native.Mathlib.Decide.{ℕ_discrete}
use Rattle.list_laws.proofs.Options.{none_from}
use Rattle.edge_lock.specs.declared.history.Access.{Access}
use Rattle.edge_lock.specs.declared.history.Access.TheVariants.{Read}
use Rattle.edge_lock.specs.History.{found_value}
use Rattle.edge_lock.specs.EndLists.{EndLists}
use Rattle.edge_lock.proofs.HistoryLaws.{found_stays}
use Rattle.tile_map.specs.Plane.{Site, is_held, in_window}
use Rattle.tile_map.specs.Edges.{shared_of, window_site}
use Rattle.tile_map.specs.Laws.{IsPlane}
use Rattle.tile_map.proofs.Registers.{number_place}
use Rattle.border_cache.specs.Accesses.{Adds}
use Rattle.border_cache.specs.Cells.{CellValue, cell_of, newer}
use Rattle.border_cache.specs.News.{WindowBorder, Covers, FindsCell, IsAsked, IsNewsRead, IsOfCell, IsRefresh, NewsIn, bit_in, cell_in, found_cell, is_news, read_cell, word_of, IsSiteRead}
use Rattle.border_cache.specs.Windows.{border_at, edge_place, edge_place_some, place_in}
use Rattle.border_cache.specs.Copies.{CacheValue, HoldsWindow, Refreshes, Stores, cell_for, copy_at, held_cell, window_cells}
use Rattle.border_cache.specs.Shared.{IsInWindowOf, Renews, TakesAt}
use Rattle.border_cache.proofs.Found.{found_new, silent_both}
use Rattle.border_cache.proofs.Covered.{covered_in, covered_few}
use Rattle.border_cache.proofs.Refreshes.{news_same}
use Rattle.border_cache.proofs.Written.{eqb_same, of_one}

pub takes_same : (e : ℕ) (p q : ℕ → Type 0) (old new : CacheValue) (xs : List Access) → ((k : ℕ) → p k → q k) → ((k : ℕ) → q k → p k) → TakesAt e p old new xs → TakesAt e q old new xs
takes_same e p q old new xs to from s = record {
  silent = s.silent;
  found = λ k h. s.found k (from k h);
  only = λ r v g. let a = s.only r v g in (a.0, to a.0 a.1, a.2);
  map = s.map;
  tile = s.tile;
  cells = s.cells;
}

unread_cell : (o : Option ℕ) → read_cell [] o ≡ None
unread_cell None = refl
unread_cell (Some k) = refl

pub takes_none : (e : ℕ) (p : ℕ → Type 0) (v : CacheValue) → ((k : ℕ) → p k → ⊥) → TakesAt e p v v []
takes_none e p v none = record {
  silent = refl;
  found = λ k h. absurd (none k h);
  only = λ r v g. absurd (none-some v g);
  map = refl;
  tile = refl;
  cells = λ s h. ap (newer (held_cell v s)) (sym (unread_cell (edge_place v.map e s)));
}

-- the cell of one place
module _ (e k : ℕ) (s : Site) (old new : CacheValue) (low high : ℕ) (own : edge_place old.map e s ≡ Some k) (r : Renews s (cell_of low high) old new) where
  abbrev two : List Access
  two = Read (1 + 2 * k) low ∷ Read (2 + 2 * k) high ∷ []

  at_low : found_value two (1 + 2 * k) ≡ Some low
  at_low = ap (λ b. cond b (Some low) (cond (eqb (1 + 2 * k) (2 + 2 * k)) (Some high) None)) (eqb_same (1 + 2 * k))

  at_high : found_value two (2 + 2 * k) ≡ Some high
  at_high = λ i. cond (ne_eqb (2 + 2 * k) (1 + 2 * k) (omega arith) i) (Some low) (cond (eqb_same (2 + 2 * k) i) (Some high) None)

  else_none : (q : ℕ) → q ≢ 1 + 2 * k → q ≢ 2 + 2 * k → found_value two q ≡ None
  else_none q a b = λ i. cond (ne_eqb q (1 + 2 * k) a i) (Some low) (cond (ne_eqb q (2 + 2 * k) b i) (Some high) None)

  cell_here : read_cell two (Some k) ≡ Some (cell_of low high)
  cell_here = λ i. cell_in (at_low i) (at_high i)

  site_here : (u : Site) → edge_place old.map e u ≡ Some k → u ≡ s
  site_here u h =
      let same : Some u ≡ Some s = sym (number_place (shared_of old.map e) u k h).1 ∙ (number_place (shared_of old.map e) s k own).1 in
      ap (λ o. or_own o) same
    where
      or_own : Option Site → Site
      or_own None = s
      or_own (Some t) = t

  at_site : (u : Site) → is_held old.map old.tile u ≡ true → (o : Option ℕ) → edge_place old.map e u ≡ o → held_cell new u ≡ newer (held_cell old u) (read_cell two o)
  at_site u held None is = r.others u held (λ same. none-some k (sym is ∙ (ap (edge_place old.map e) same ∙ own)))
  at_site u held (Some i) is = dite (ℕ_discrete i k)
      (λ (same : i ≡ k).
      let one : u ≡ s = site_here u (is ∙ ap Some same) in
      ap (held_cell new) one ∙ (r.here ∙ ((λ j. newer (held_cell old (sym one j)) (sym cell_here j)) ∙ ap (λ o. newer (held_cell old u) (read_cell two (Some o))) (sym same))))
      (λ (other : i ≢ k).
      let far : read_cell two (Some i) ≡ None = λ j. cell_in (else_none (1 + 2 * i) (omega (arith, other)) (omega (arith, other)) j) (found_value two (2 + 2 * i)) in
      r.others u held (λ same. other (ap (or_zero_of) (sym is ∙ (ap (edge_place old.map e) same ∙ own)))) ∙ ap (newer (held_cell old u)) (sym far))
    where
      or_zero_of : Option ℕ → ℕ
      or_zero_of None = 0
      or_zero_of (Some n) = n

  pub takes_one : TakesAt e (λ j. j ≡ k) old new two
  takes_one = record {
    silent = refl;
    found = λ j same. subst (FindsCell two) (sym same) (low, high, at_low, at_high);
    only = λ q v g. dite (ℕ_discrete q (1 + 2 * k))
        (λ (h : q ≡ 1 + 2 * k). (k, refl, inl h))
        (λ (a : q ≢ 1 + 2 * k). dite (ℕ_discrete q (2 + 2 * k))
        (λ (h : q ≡ 2 + 2 * k). (k, refl, inr h))
        (λ (b : q ≢ 2 + 2 * k). absurd (none-some v (sym (else_none q a b) ∙ g))));
    map = r.map;
    tile = r.tile;
    cells = λ u held. at_site u held (edge_place old.map e u) refl;
  }

-- the site was given the newer of its own cell and another, if there is one
abbrev pub RenewsSome : Site → Option CellValue → CacheValue → CacheValue → Type 0
RenewsSome s None old new = new ≡ old
RenewsSome s (Some cell) old new = Renews s cell old new

-- the same, if its bit is set
pub takes_place : (e k : ℕ) (s : Site) (news : List ℕ) (old new : CacheValue) (xs : List Access) → (found : Option CellValue) → edge_place old.map e s ≡ Some k → IsSiteRead k (bit_in news k) found xs → RenewsSome s found old new
    → TakesAt e (NewsIn news (λ j. j ≡ k)) old new xs
takes_place e k s news old new xs None own read same =
    let p : ℕ → Type 0 = NewsIn news (λ j. j ≡ k) in
    subst (TakesAt e p old new) (sym read.0) (subst (λ v. TakesAt e p old v []) (sym same) (takes_none e p old (λ j h. let one = ap (bit_in news) (sym h.0) ∙ h.1 in omega (arith, one, read.1))))
takes_place e k s news old new xs (Some cell) own (low, high, is, set, says) renews =
    let p : ℕ → Type 0 = NewsIn news (λ j. j ≡ k) in
    subst (TakesAt e p old new) (sym is)
    (takes_same e (λ j. j ≡ k) p old new (Read (1 + 2 * k) low ∷ Read (2 + 2 * k) high ∷ []) (λ j h. (h, ap (bit_in news) h ∙ set)) (λ j h. h.0)
    (takes_one e k s old new low high own (subst (λ x. Renews s x old new) says renews)))

-- two parts of the places, one after the other
module _ (e : ℕ) (p q : ℕ → Type 0) (a b c : CacheValue) (xs ys : List Access) (s : TakesAt e p a b xs) (t : TakesAt e q b c ys) (apart : (k : ℕ) → p k → q k → ⊥) where
  first_of : (k r v : ℕ) → IsOfCell k r → found_value xs r ≡ Some v → p k
  first_of k r v of is = let o = s.only r v is in subst p (of_one o.0 k r o.2 of) o.1

  second_of : (k r v : ℕ) → IsOfCell k r → found_value ys r ≡ Some v → q k
  second_of k r v of is = let o = t.only r v is in subst q (of_one o.0 k r o.2 of) o.1

  not_first : (k r : ℕ) → (p k → ⊥) → IsOfCell k r → found_value xs r ≡ None
  not_first k r not of = none_from (found_value xs r) (λ v is. not (first_of k r v of is))

  new_found : (k r : ℕ) → (p k → ⊥) → IsOfCell k r → found_value (xs ++ ys) r ≡ found_value ys r
  new_found k r not of = found_new xs ys r s.silent (not_first k r not of)

  both_cell : (x : CellValue) (o : Option ℕ) → newer (newer x (read_cell xs o)) (read_cell ys o) ≡ newer x (read_cell (xs ++ ys) o)
  both_cell x None = refl
  both_cell x (Some k) = go (found_value xs (1 + 2 * k)) refl
    where
      go : (o : Option ℕ) → found_value xs (1 + 2 * k) ≡ o → newer (newer x (read_cell xs (Some k))) (read_cell ys (Some k)) ≡ newer x (read_cell (xs ++ ys) (Some k))
      go (Some v) is =
          let h : p k = first_of k (1 + 2 * k) v (inl refl) is in
          let f = s.found k h in
          let old : read_cell xs (Some k) ≡ Some (cell_of f.0 f.1) = λ i. cell_in (f.2 i) (f.3 i) in
          let all : read_cell (xs ++ ys) (Some k) ≡ Some (cell_of f.0 f.1) = λ i. cell_in (found_stays xs ys (1 + 2 * k) f.0 f.2 i) (found_stays xs ys (2 + 2 * k) f.1 f.3 i) in
          let none : found_value ys (1 + 2 * k) ≡ None = none_from (found_value ys (1 + 2 * k)) (λ w at. apart k h (second_of k (1 + 2 * k) w (inl refl) at)) in
          let rest : read_cell ys (Some k) ≡ None = λ i. cell_in (none i) (found_value ys (2 + 2 * k)) in
          ap (newer (newer x (read_cell xs (Some k)))) rest ∙ (ap (newer x) old ∙ ap (newer x) (sym all))
      go None is =
          let not : p k → ⊥ = λ h. let f = s.found k h in none-some f.0 (sym is ∙ f.2) in
          let none : read_cell xs (Some k) ≡ None = λ i. cell_in (is i) (found_value xs (2 + 2 * k)) in
          let all : read_cell (xs ++ ys) (Some k) ≡ read_cell ys (Some k) = λ i. cell_in (new_found k (1 + 2 * k) not (inl refl) i) (new_found k (2 + 2 * k) not (inr refl) i) in
          ap (λ y. newer (newer x y) (read_cell ys (Some k))) none ∙ ap (newer x) (sym all)

  asked : (r v : ℕ) → found_value (xs ++ ys) r ≡ Some v → (o : Option ℕ) → found_value xs r ≡ o → (k : ℕ) × (p k ⊎ q k) × IsOfCell k r
  asked r v g None is = let h = t.only r v (sym (found_new xs ys r s.silent is) ∙ g) in (h.0, inr h.1, h.2)
  asked r v g (Some u) is = let h = s.only r u is in (h.0, inl h.1, h.2)

  pub takes_both : TakesAt e (λ k. p k ⊎ q k) a c (xs ++ ys)
  takes_both = record {
    silent = silent_both xs ys s.silent t.silent;
    found = λ k h. ⊎_elim
        (λ i. let f = s.found k i in (f.0, f.1, found_stays xs ys (1 + 2 * k) f.0 f.2, found_stays xs ys (2 + 2 * k) f.1 f.3))
        (λ i. let f = t.found k i in let not : p k → ⊥ = λ j. apart k j i in (f.0, f.1, new_found k (1 + 2 * k) not (inl refl) ∙ f.2, new_found k (2 + 2 * k) not (inr refl) ∙ f.3))
        h;
    only = λ r v g. asked r v g (found_value xs r) refl;
    map = t.map ∙ s.map;
    tile = t.tile ∙ s.tile;
    cells = λ u held.
        let mid : is_held b.map b.tile u ≡ true = (λ i. is_held (s.map i) (s.tile i) u) ∙ held in
        t.cells u mid ∙ ((λ i. newer (s.cells u held i) (read_cell ys (edge_place (s.map i) e u))) ∙ both_cell (held_cell a u) (edge_place a.map e u));
  }

-- the places of both together, of which those are taken that are news
pub takes_news : (e : ℕ) (news : List ℕ) (p q both : ℕ → Type 0) (a b c : CacheValue) (xs ys : List Access) → TakesAt e (NewsIn news p) a b xs → TakesAt e (NewsIn news q) b c ys → ((k : ℕ) → p k → q k → ⊥)
    → ((k : ℕ) → p k ⊎ q k → both k) → ((k : ℕ) → both k → p k ⊎ q k) → TakesAt e (NewsIn news both) a c (xs ++ ys)
takes_news e news p q both a b c xs ys s t apart to from =
    takes_same e (λ k. NewsIn news p k ⊎ NewsIn news q k) (NewsIn news both) a c (xs ++ ys)
    (λ k h. ⊎_elim (λ (i : NewsIn news p k). (to k (inl i.0), i.1)) (λ (i : NewsIn news q k). (to k (inr i.0), i.1)) h)
    (λ k h. ⊎_elim (λ (i : p k). inl (i, h.1)) (λ (i : q k). inr (i, h.1)) (from k h.0))
    (takes_both e (NewsIn news p) (NewsIn news q) a b c xs ys s t (λ k i j. apart k i.0 j.0))

-- all that a refresh does on an edge: the news words are read, then the cells that are news
module _ (c : Site) (e : ℕ) (news : List ℕ) (old new : CacheValue) (xs ys : List Access) (plane : IsPlane old.map) (holds : HoldsWindow old.map old.tile c)
    (r : IsNewsRead (border_at old.map old.tile c e) news xs) (t : TakesAt e (NewsIn news (IsInWindowOf old.map c e)) old new ys) where
  abbrev b : WindowBorder
  b = border_at old.map old.tile c e

  abbrev all : List Access
  all = xs ++ ys

  -- no news word is one of a cell
  no_word : (k q : ℕ) → Covers b.places b.count k → IsOfCell k q → found_value xs q ≡ None
  no_word k q cov of = none_from (found_value xs q) (λ v is.
      let a = r.only q v is in
      let few = covered_few old.map plane c e k cov in
      ⊎_elim (λ (h : q ≡ 1 + 2 * k). omega (arith, h, few, a.2)) (λ (h : q ≡ 2 + 2 * k). omega (arith, h, few, a.2)) of)

  here : (k q : ℕ) → Covers b.places b.count k → IsOfCell k q → found_value all q ≡ found_value ys q
  here k q cov of = found_new xs ys q r.silent (no_word k q cov of)

  same : (k : ℕ) → Covers b.places b.count k → is_news b.sites b.end all k ≡ (bit_in news k == 1)
  same k cov = let w = r.words k cov in news_same b.sites b.end xs ys k w.0 w.1 ∙ r.bits k cov

  is_set : (k : ℕ) → Covers b.places b.count k → is_news b.sites b.end all k ≡ true → bit_in news k ≡ 1
  is_set k cov h = let one : (bit_in news k == 1) ≡ true = sym (same k cov) ∙ h in grind (arith, nat_tests, one)

  asked_of : (q v : ℕ) → found_value all q ≡ Some v → (o : Option ℕ) → found_value xs q ≡ o → IsAsked b all q
  asked_of q v g None is =
      let h = t.only q v (sym (found_new xs ys q r.silent is) ∙ g) in
      (h.0, h.1.0, inr (same h.0 h.1.0 ∙ ap (λ x. x == 1) h.1.1, h.2))
  asked_of q v g (Some u) is = let h = r.only q u is in (h.0, h.1, inl h.2)

  pub reads_all : IsRefresh b all
  reads_all = record {
    silent = silent_both xs ys r.silent t.silent;
    words = λ k cov. let w = r.words k cov in (w.0, found_stays xs ys (word_of b.sites b.end k) w.0 w.1);
    cells = λ k cov h. let f = t.found k (cov, is_set k cov h) in (f.0, f.1, here k (1 + 2 * k) cov (inl refl) ∙ f.2, here k (2 + 2 * k) cov (inr refl) ∙ f.3);
    only = λ q v g. asked_of q v g (found_value xs q) refl;
  }

  -- what was taken at a place that the window covers
  taken_at : (k : ℕ) → Covers b.places b.count k → (x : Bool) → is_news b.sites b.end all k ≡ x → read_cell ys (Some k) ≡ cond x (cell_in (found_value all (1 + 2 * k)) (found_value all (2 + 2 * k))) None
  taken_at k cov true h = λ i. cell_in (sym (here k (1 + 2 * k) cov (inl refl)) i) (sym (here k (2 + 2 * k) cov (inr refl)) i)
  taken_at k cov false h =
      let none : found_value ys (1 + 2 * k) ≡ None = none_from (found_value ys (1 + 2 * k)) (λ v is.
      let o = t.only (1 + 2 * k) v is in
      let one : bit_in news k ≡ 1 = ap (bit_in news) (sym (of_one o.0 k (1 + 2 * k) o.2 (inl refl))) ∙ o.1.1 in
      true≢false (sym (same k cov ∙ ap (λ y. y == 1) one) ∙ h)) in
      λ i. cell_in (none i) (found_value ys (2 + 2 * k))

  taken : (n : ℕ) (s : Site) → n < 41 → window_site old.map c n ≡ Some s → (o : Option ℕ) → edge_place old.map e s ≡ o → read_cell ys o ≡ found_cell b.sites b.end all o
  taken n s lt at None is = refl
  taken n s lt at (Some k) is = taken_at k (n, lt, ap (edge_place_some old.map e) at ∙ is) (is_news b.sites b.end all k) refl

  done_at : (n : ℕ) (s : Site) → n < 41 → window_site old.map c n ≡ Some s → held_cell new s ≡ newer (window_cells old c n) (found_cell b.sites b.end all (place_in old.map c e n))
  done_at n s lt at =
      t.cells s (holds n s lt at) ∙ ((λ i. newer (cell_for old (sym at i)) (taken n s lt at (edge_place old.map e s) refl i)) ∙ ap (λ o. newer (window_cells old c n) (found_cell b.sites b.end all (edge_place_some old.map e o))) (sym at))

  -- a site that is not in the window keeps its cell
  untaken : (s : Site) → in_window old.map c s ≡ false → (o : Option ℕ) → edge_place old.map e s ≡ o → read_cell ys o ≡ None
  untaken s out None is = refl
  untaken s out (Some k) is =
      let none : found_value ys (1 + 2 * k) ≡ None = none_from (found_value ys (1 + 2 * k)) (λ v at.
      let o = t.only (1 + 2 * k) v at in
      let cov = subst (IsInWindowOf old.map c e) (of_one o.0 k (1 + 2 * k) o.2 (inl refl)) o.1.0 in
      let w = covered_in old.map plane c e k cov in
      let one : Some w.0 ≡ Some s = sym w.1 ∙ (number_place (shared_of old.map e) s k is).1 in
      true≢false (sym w.2 ∙ (ap (λ u. in_window old.map c (or_own s u)) one ∙ out))) in
      λ i. cell_in (none i) (found_value ys (2 + 2 * k))
    where
      or_own : Site → Option Site → Site
      or_own s None = s
      or_own s (Some u) = u

  pub stores_all : Stores c (λ n. newer (window_cells old c n) (found_cell b.sites b.end all (place_in old.map c e n))) old new
  stores_all = record {
    differs = record {
      map = t.map;
      tile = t.tile;
      others = λ s held out. t.cells s held ∙ ap (newer (held_cell old s)) (untaken s out (edge_place old.map e s) refl);
    };
    done = done_at;
  }

  pub refreshes_edge : (f g : ℕ → EndLists) → Adds f g e all → Refreshes c e (copy_at old f) (copy_at new g)
  refreshes_edge f g adds = record { more = all; adds = adds; reads = reads_all; stores = stores_all }
