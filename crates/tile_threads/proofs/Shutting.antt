-- The next edge is closed: each of its two tiles loses its first pass.
use Rattle.std.proofs.Common.{◌≡◌, ◌≢◌, ℕ, zero, suc, ◌+◌, ◌<◌, ◌≤◌, true, false, cond, List, [], ◌∷◌, ◌++◌, map, length, get_or, refl, sym, ap, ◌∙◌, subst, arith, eq-eqb, ne_eqb, length-set, get_or-set_same, get_or-set_other, length-append}
use Rattle.std.specs.Prelude.{filter, drop}
use Rattle.std.specs.List.{range_with_len}
use Rattle.std.proofs.lemmas.List.{get_or_append_left}
use mathlib.Core.Logic.{dite}
use native.Mathlib.Decide.{ℕ_discrete}
use Rattle.tile_map.specs.Plane.{MapValue, tiles_of}
use Rattle.tile_map.specs.Edges.{pairs_of, low_end, high_end, has_end}
use Rattle.edge_lock.specs.EndLists.{EndLists, IsFree}
use Rattle.edge_lock.specs.Passes.{EdgeValue, PassValue, ClosedValue, IsClosed}
use Rattle.edge_lock.specs.SharedEnds.{EdgeAndEnd, edge_and_end, pass_lists}
use Rattle.border_cache.specs.Windows.{end_at}
use Rattle.serial_order.specs.Words.{no_closed, closed_at}
use Rattle.tile_threads.specs.Passes.{shared_edges, edge_of, passes_of, right_to, own_edges, HasPasses, TakesFirst, AreLeft, IsClosedEdge}
use Rattle.tile_threads.proofs.NewEdges.{low_has, high_has, none_has}

range_next : (a n : ℕ) → range_with_len a (n + 1) ≡ a ∷ range_with_len (a + 1) n
range_next a n = let one : n + 1 ≡ suc n = omega arith in ap (range_with_len a) one

module _ (m : MapValue) (t first n : ℕ) where
  own_first : has_end m t first ≡ true → own_edges m t first (n + 1) ≡ first ∷ own_edges m t (first + 1) n
  own_first is = ap (filter (has_end m t)) (range_next first n) ∙ ap (λ b. cond b (first ∷ own_edges m t (first + 1) n) (own_edges m t (first + 1) n)) is

  own_skips : has_end m t first ≡ false → own_edges m t first (n + 1) ≡ own_edges m t (first + 1) n
  own_skips is = ap (filter (has_end m t)) (range_next first n) ∙ ap (λ b. cond b (first ∷ own_edges m t (first + 1) n) (own_edges m t (first + 1) n)) is

-- the first pass of a tile of the edge, and those that follow
pub record IsFirst (m : MapValue) (edges : List EdgeValue) (lists : ℕ → ℕ → EndLists) (first n t : ℕ) (p : PassValue) (rest : List PassValue) : Type 0 where
  pub of : p.of ≡ edge_of edges first
  pub end : p.end ≡ end_at m t first
  pub lists_are : p.lists ≡ lists t first
  pub after : HasPasses m edges t (own_edges m t (first + 1) n) rest
  pub later : (e : ℕ) → first + 1 ≤ e → has_end m t e ≡ true → pass_lists rest e ≡ lists t e

module _ (m : MapValue) (edges : List EdgeValue) (lists : ℕ → ℕ → EndLists) (first n : ℕ) (ps : List (List PassValue)) (k : AreLeft m (shared_edges edges lists) first (n + 1) ps) where
  inside_first : first < length (pairs_of m)
  inside_first = let w = k.whole in omega (arith, w)

  pub some_first : (t : ℕ) → t < tiles_of m → has_end m t first ≡ true → 0 < length (passes_of ps t)
  some_first t lt own = go (passes_of ps t) (k.each t lt ∙ ap (map (right_to m edges t)) (own_first m t first n own))
    where
      go : (xs : List PassValue) → map edge_and_end xs ≡ right_to m edges t first ∷ map (right_to m edges t) (own_edges m t (first + 1) n) → 0 < length xs
      go [] is = absurd (cc is)
      go (x ∷ xs) is = omega arith

  pub first_is : (t : ℕ) → t < tiles_of m → has_end m t first ≡ true → (p : PassValue) (rest : List PassValue) → passes_of ps t ≡ p ∷ rest → IsFirst m edges lists first n t p rest
  first_is t lt own p rest is = record {
    of = of;
    end = ap (λ (w : EdgeAndEnd). w.end) here;
    lists_are = sym (ap (λ b. cond b p.lists (pass_lists rest first)) (eq-eqb p.of.number first number)) ∙ (ap (λ l. pass_lists l first) (sym is) ∙ k.lists_are t first lt (omega arith) own);
    after = cc whole;
    later = λ e le end. sym (ap (λ b. cond b p.lists (pass_lists rest e)) (ne_eqb p.of.number e (λ h. omega (arith, h, number, le)))) ∙ (ap (λ l. pass_lists l e) (sym is) ∙ k.lists_are t e lt (omega (arith, le)) end);
  }
    where
      whole : edge_and_end p ∷ map edge_and_end rest ≡ right_to m edges t first ∷ map (right_to m edges t) (own_edges m t (first + 1) n)
      whole = ap (map edge_and_end) (sym is) ∙ (k.each t lt ∙ ap (map (right_to m edges t)) (own_first m t first n own))

      here : edge_and_end p ≡ right_to m edges t first
      here = cc whole

      of : p.of ≡ edge_of edges first
      of = ap (λ (w : EdgeAndEnd). w.of) here

      number : p.of.number ≡ first
      number = ap (λ (x : EdgeValue). x.number) of ∙ k.edges_are.numbers first (let w = k.known in omega (arith, w, inside_first))

  module _ (rises : low_end m first < high_end m first) (inside : high_end m first < tiles_of m) where
    abbrev lo : ℕ
    lo = low_end m first

    abbrev hi : ℕ
    hi = high_end m first

    apart : hi ≢ lo
    apart h = omega (arith, h, rises)

    lo_inside : lo < tiles_of m
    lo_inside = omega (arith, rises, inside)

    module _ (one two : List (List PassValue)) (p q : PassValue) (a : TakesFirst ps one lo p) where
      still_hi : passes_of one hi ≡ passes_of ps hi
      still_hi = ap (λ l. passes_of l hi) a.is ∙ get_or-set_other ps lo hi a.rest [] apart

      pub some_second : 0 < length (passes_of one hi)
      some_second = subst (λ l. 0 < length l) (sym still_hi) (some_first hi inside (high_has m first rises))

      pub low_first : IsFirst m edges lists first n lo p a.rest
      low_first = first_is lo lo_inside (low_has m first) p a.rest a.was

      module _ (b : TakesFirst one two hi q) where
        pub high_first : IsFirst m edges lists first n hi q b.rest
        high_first = first_is hi inside (high_has m first rises) q b.rest (sym still_hi ∙ b.was)

        pub low_free : IsFree p.lists
        low_free = subst IsFree (sym low_first.lists_are) (k.free lo first lo_inside (low_has m first))

        pub high_free : IsFree q.lists
        high_free = subst IsFree (sym high_first.lists_are) (k.free hi first inside (high_has m first rises))

        pub closed_is : (edge : EdgeValue) (c : ClosedValue) → edge ≡ edge_of edges first → c.registers ≡ edge.registers → IsClosed c p.lists q.lists → IsClosedEdge m lists first c
        closed_is edge c is registers history = record {
          registers = registers ∙ (ap (λ (x : EdgeValue). x.registers) is ∙ k.edges_are.registers first (let w = k.known in omega (arith, w, inside_first)));
          history = subst (λ (x : EndLists × EndLists). IsClosed c x.0 x.1) (λ i. (low_first.lists_are i, high_first.lists_are i)) history;
        }

        tiles_one : length one ≡ tiles_of m
        tiles_one = ap (λ l. length l) a.is ∙ (length-set ps lo a.rest ∙ k.tiles)

        at_lo : passes_of two lo ≡ a.rest
        at_lo = ap (λ l. passes_of l lo) b.is ∙ (get_or-set_other one hi lo b.rest [] (λ h. apart (sym h)) ∙ (ap (λ l. passes_of l lo) a.is ∙ get_or-set_same ps lo a.rest [] (let w = k.tiles in omega (arith, w, lo_inside))))

        at_hi : passes_of two hi ≡ b.rest
        at_hi = ap (λ l. passes_of l hi) b.is ∙ get_or-set_same one hi b.rest [] (omega (arith, tiles_one, inside))

        at_none : (t : ℕ) → t ≢ lo → t ≢ hi → passes_of two t ≡ passes_of ps t
        at_none t x y = ap (λ l. passes_of l t) b.is ∙ (get_or-set_other one hi t b.rest [] y ∙ (ap (λ l. passes_of l t) a.is ∙ get_or-set_other ps lo t a.rest [] x))

        by_tile : (P : ℕ → List PassValue → Type 0) → P lo a.rest → P hi b.rest → ((t : ℕ) → t ≢ lo → t ≢ hi → t < tiles_of m → P t (passes_of ps t)) → (t : ℕ) → t < tiles_of m → P t (passes_of two t)
        by_tile P l h rest t lt = dite (ℕ_discrete t lo)
            (λ is. subst (λ j. P j (passes_of two j)) (sym is) (subst (P lo) (sym at_lo) l))
            (λ not_lo. dite (ℕ_discrete t hi)
            (λ is. subst (λ j. P j (passes_of two j)) (sym is) (subst (P hi) (sym at_hi) h))
            (λ not_hi. subst (P t) (sym (at_none t not_lo not_hi)) (rest t not_lo not_hi lt)))

        pub left_after : AreLeft m (shared_edges edges lists) (first + 1) n two
        left_after = record {
          whole = let w = k.whole in omega (arith, w);
          known = k.known;
          edges_are = k.edges_are;
          free = k.free;
          tiles = ap (λ l. length l) b.is ∙ (length-set one hi b.rest ∙ tiles_one);
          each = by_tile (λ t l. HasPasses m edges t (own_edges m t (first + 1) n) l) low_first.after high_first.after
              (λ t x y lt. k.each t lt ∙ ap (map (right_to m edges t)) (own_skips m t first n (none_has m first t x y)));
          lists_are = λ t e lt le own. by_tile (λ t l. (e : ℕ) → first + 1 ≤ e → has_end m t e ≡ true → pass_lists l e ≡ lists t e) low_first.later high_first.later
              (λ t x y lt e le own. k.lists_are t e lt (omega (arith, le)) own) t lt e le own;
        }

-- one more closed edge
module _ (m : MapValue) (lists : ℕ → ℕ → EndLists) where
  abbrev pub AreClosedSoFar : List ClosedValue → Type 0
  AreClosedSoFar cs = (e : ℕ) → e < length cs → IsClosedEdge m lists e (closed_at cs e)

  last_closed : (cs : List ClosedValue) (c : ClosedValue) → closed_at (cs ++ c ∷ []) (length cs) ≡ c
  last_closed [] c = refl
  last_closed (d ∷ cs) c = last_closed cs c

  pub closed_more : (cs : List ClosedValue) (c : ClosedValue) → AreClosedSoFar cs → IsClosedEdge m lists (length cs) c → AreClosedSoFar (cs ++ c ∷ [])
  closed_more cs c so_far new e lt = dite (ℕ_discrete e (length cs))
      (λ is. subst (λ j. IsClosedEdge m lists j (closed_at (cs ++ c ∷ []) j)) (sym is) (subst (IsClosedEdge m lists (length cs)) (sym (last_closed cs c)) new))
      (λ older. let old : e < length cs = omega (arith, lt, older, length-append cs (c ∷ [])) in subst (IsClosedEdge m lists e) (sym (get_or_append_left cs (c ∷ []) no_closed e old)) (so_far e old))

-- the next of what is left of a list
pub next_of : {X : Type 0} (xs : List X) (n : ℕ) (x d : X) (rest : List X) → drop n xs ≡ x ∷ rest → (get_or xs n d ≡ x) × (drop (n + 1) xs ≡ rest) × (n < length xs)
next_of [] zero x d rest is = absurd (cc is)
next_of [] (suc n) x d rest is = absurd (cc is)
next_of (e ∷ xs) zero x d rest is = (cc is, cc is, omega arith)
next_of (e ∷ xs) (suc n) x d rest is =
    let r = next_of xs n x d rest is in
    let more : suc n + 1 ≡ suc (n + 1) = omega arith in
    (r.0, ap (λ j. drop j (e ∷ xs)) more ∙ r.1, omega (arith, r.2))
