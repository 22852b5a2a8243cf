-- A new edge gives each of its two tiles a pass.
use Rattle.std.proofs.Common.{◌≡◌, ◌≢◌, ℕ, zero, suc, ◌+◌, ◌<◌, eqb, true, false, cond, List, [], ◌∷◌, ◌++◌, map, length, set, replicate, refl, sym, ap, ◌∙◌, subst, arith, eq-eqb, ne_eqb, length-set, get_or-set_same, get_or-set_other, length-append}
use Rattle.std.specs.Prelude.{All, ◌||◌}
use Rattle.std.specs.List.{range_with_len}
use Rattle.std.proofs.lemmas.List.{append-nil, map-append, get_or_append_left, length-replicate}
use Rattle.std.proofs.lemmas.List.Elements.{All-push}
use mathlib.Core.Logic.{dite}
use native.Mathlib.Decide.{ℕ_discrete}
use Rattle.list_laws.proofs.Members.{filter_in, range_in}
use Rattle.list_laws.proofs.Filters.{filter_more}
use Rattle.edge_lock.specs.Edges.{registers_of}
use Rattle.tile_map.specs.Plane.{MapValue, tiles_of}
use Rattle.tile_map.specs.Edges.{low_end, high_end, has_end}
use Rattle.edge_lock.specs.Passes.{EdgeValue, PassValue, IsFresh}
use Rattle.edge_lock.specs.SharedEnds.{edge_and_end}
use Rattle.edge_lock.proofs.HistorySteps.{all-none}
use Rattle.border_cache.specs.Windows.{end_at, sites_on}
use Rattle.tile_threads.specs.Passes.{no_edge, edge_of, passes_of, right_to, AreEdges, own_edges, HasPasses, IsUnused, AreEdgesMade}
use Rattle.tile_threads.proofs.Lookups.{map_same}

get_last : (es : List EdgeValue) (x : EdgeValue) (n : ℕ) → length es ≡ n → edge_of (es ++ x ∷ []) n ≡ x
get_last [] x zero is = refl
get_last [] x (suc n) is = absurd (omega (arith, is))
get_last (e ∷ es) x zero is = absurd (omega (arith, is))
get_last (e ∷ es) x (suc n) is = get_last es x n (omega (arith, is))

module _ (m : MapValue) (n : ℕ) (es : List EdgeValue) (x : EdgeValue) (known : length es ≡ n) (t : ℕ) where
  abbrev more : List EdgeValue
  more = es ++ x ∷ []

  begun : map (right_to m more t) (own_edges m t 0 n) ≡ map (right_to m es t) (own_edges m t 0 n)
  begun = map_same (right_to m more t) (right_to m es t) (own_edges m t 0 n)
      (λ k i. let lt = (range_in 0 n k (filter_in (has_end m t) (range_with_len 0 n) k i).0).1 in
      ap (λ (y : EdgeValue). record { of = y; end = end_at m t k }) (get_or_append_left es (x ∷ []) no_edge k (omega (arith, lt, known))))

  -- a tile of the edge has one more pass
  pub with_pass : (ps : List PassValue) (p : PassValue) → has_end m t n ≡ true → p.of ≡ x → p.end ≡ end_at m t n → HasPasses m es t (own_edges m t 0 n) ps → HasPasses m more t (own_edges m t 0 (n + 1)) (ps ++ p ∷ [])
  with_pass ps p own of end h =
      map-append edge_and_end ps (p ∷ []) ∙ ((λ i. (h ∙ sym begun) i ++ record { of = (of ∙ sym (get_last es x n known)) i; end = end i } ∷ [])
      ∙ sym (ap (map (right_to m more t)) (filter_more (has_end m t) n ∙ ap (λ b. own_edges m t 0 n ++ cond b (n ∷ []) []) own) ∙ map-append (right_to m more t) (own_edges m t 0 n) (n ∷ [])))

  -- another tile has not
  pub without : (ps : List PassValue) → has_end m t n ≡ false → HasPasses m es t (own_edges m t 0 n) ps → HasPasses m more t (own_edges m t 0 (n + 1)) ps
  without ps no_end h =
      h ∙ (sym begun ∙ sym (ap (map (right_to m more t)) (filter_more (has_end m t) n ∙ (ap (λ b. own_edges m t 0 n ++ cond b (n ∷ []) []) no_end ∙ append-nil (own_edges m t 0 n)))))

-- whose an edge is
module _ (m : MapValue) (e : ℕ) where
  pub low_has : has_end m (low_end m e) e ≡ true
  low_has = ap (λ b. b || eqb (high_end m e) (low_end m e)) (eq-eqb (low_end m e) (low_end m e) refl)

  pub high_has : low_end m e < high_end m e → has_end m (high_end m e) e ≡ true
  high_has lt = (λ i. ne_eqb (low_end m e) (high_end m e) (λ h. omega (arith, h, lt)) i || eq-eqb (high_end m e) (high_end m e) refl i)

  pub none_has : (t : ℕ) → t ≢ low_end m e → t ≢ high_end m e → has_end m t e ≡ false
  none_has t a b = (λ i. ne_eqb (low_end m e) t (λ h. a (sym h)) i || ne_eqb (high_end m e) t (λ h. b (sym h)) i)

  pub low_is : end_at m (low_end m e) e ≡ 0
  low_is = ap (λ b. cond {A = ℕ} b 0 1) (eq-eqb (low_end m e) (low_end m e) refl)

  pub high_is : low_end m e < high_end m e → end_at m (high_end m e) e ≡ 1
  high_is lt = ap (λ b. cond {A = ℕ} b 0 1) (ne_eqb (low_end m e) (high_end m e) (λ h. omega (arith, h, lt)))

module _ (m : MapValue) (n : ℕ) (es : List EdgeValue) (ps : List (List PassValue)) (k : AreEdgesMade m n es ps) (rises : low_end m n < high_end m n) (inside : high_end m n < tiles_of m)
    (x : EdgeValue) (number : x.number ≡ n) (registers : x.registers ≡ registers_of (sites_on m n)) (p q : PassValue) (low : IsFresh p x 0) (high : IsFresh q x 1)
  where
    abbrev lo : ℕ
    lo = low_end m n

    abbrev hi : ℕ
    hi = high_end m n

    abbrev one : List (List PassValue)
    one = set ps lo (passes_of ps lo ++ p ∷ [])

    abbrev two : List (List PassValue)
    two = set one hi (passes_of one hi ++ q ∷ [])

    apart : hi ≢ lo
    apart h = omega (arith, h, rises)

    tiles_one : length one ≡ tiles_of m
    tiles_one = length-set ps lo (passes_of ps lo ++ p ∷ []) ∙ k.tiles

    at_lo : passes_of two lo ≡ passes_of ps lo ++ p ∷ []
    at_lo = get_or-set_other one hi lo (passes_of one hi ++ q ∷ []) [] (λ h. apart (sym h)) ∙ get_or-set_same ps lo (passes_of ps lo ++ p ∷ []) [] (let w = k.tiles in omega (arith, w, rises, inside))

    at_hi : passes_of two hi ≡ passes_of ps hi ++ q ∷ []
    at_hi = get_or-set_same one hi (passes_of one hi ++ q ∷ []) [] (omega (arith, tiles_one, inside)) ∙ ap (λ l. l ++ q ∷ []) (get_or-set_other ps lo hi (passes_of ps lo ++ p ∷ []) [] apart)

    at_none : (t : ℕ) → t ≢ lo → t ≢ hi → passes_of two t ≡ passes_of ps t
    at_none t a b = get_or-set_other one hi t (passes_of one hi ++ q ∷ []) [] b ∙ get_or-set_other ps lo t (passes_of ps lo ++ p ∷ []) [] a

    by_tile : (P : ℕ → List PassValue → Type 0) → P lo (passes_of ps lo ++ p ∷ []) → P hi (passes_of ps hi ++ q ∷ []) → ((t : ℕ) → t ≢ lo → t ≢ hi → t < tiles_of m → P t (passes_of ps t)) → (t : ℕ) → t < tiles_of m → P t (passes_of two t)
    by_tile P l h rest t lt = dite (ℕ_discrete t lo)
        (λ is. subst (λ j. P j (passes_of two j)) (sym is) (subst (P lo) (sym at_lo) l))
        (λ not_lo. dite (ℕ_discrete t hi)
        (λ is. subst (λ j. P j (passes_of two j)) (sym is) (subst (P hi) (sym at_hi) h))
        (λ not_hi. subst (P t) (sym (at_none t not_lo not_hi)) (rest t not_lo not_hi lt)))

    lo_inside : lo < tiles_of m
    lo_inside = omega (arith, rises, inside)

    edges_more : AreEdges m (es ++ x ∷ [])
    edges_more = record {
      numbers = λ e lt. dite (ℕ_discrete e n)
          (λ is. ap (λ j. (edge_of (es ++ x ∷ []) j).number) is ∙ (ap (λ (y : EdgeValue). y.number) (get_last es x n k.known) ∙ (number ∙ sym is)))
          (λ not_last. let old : e < length es = older e lt not_last in ap (λ (y : EdgeValue). y.number) (get_or_append_left es (x ∷ []) no_edge e old) ∙ k.edges_are.numbers e old);
      registers = λ e lt. dite (ℕ_discrete e n)
          (λ is. ap (λ j. (edge_of (es ++ x ∷ []) j).registers) is ∙ (ap (λ (y : EdgeValue). y.registers) (get_last es x n k.known) ∙ (registers ∙ ap (λ j. registers_of (sites_on m j)) (sym is))))
          (λ not_last. let old : e < length es = older e lt not_last in ap (λ (y : EdgeValue). y.registers) (get_or_append_left es (x ∷ []) no_edge e old) ∙ k.edges_are.registers e old);
    }
      where
        older : (e : ℕ) → e < length (es ++ x ∷ []) → e ≢ n → e < length es
        older e lt not_last = let w = k.known in omega (arith, lt, not_last, w, length-append es (x ∷ []))

    pub made_more : AreEdgesMade m (n + 1) (es ++ x ∷ []) two
    made_more = record {
      known = let w = k.known in omega (arith, w, length-append es (x ∷ []));
      edges_are = edges_more;
      tiles = length-set one hi (passes_of one hi ++ q ∷ []) ∙ tiles_one;
      each = by_tile (λ t l. HasPasses m (es ++ x ∷ []) t (own_edges m t 0 (n + 1)) l)
          (with_pass m n es x k.known lo (passes_of ps lo) p (low_has m n) (ap (λ (w : PassValue). w.of) low) (ap (λ (w : PassValue). w.end) low ∙ sym (low_is m n)) (k.each lo lo_inside))
          (with_pass m n es x k.known hi (passes_of ps hi) q (high_has m n rises) (ap (λ (w : PassValue). w.of) high) (ap (λ (w : PassValue). w.end) high ∙ sym (high_is m n rises)) (k.each hi inside))
          (λ t a b lt. without m n es x k.known t (passes_of ps t) (none_has m n t a b) (k.each t lt));
      unused = by_tile (λ t l. All IsUnused l)
          (All-push IsUnused (passes_of ps lo) p (k.unused lo lo_inside) (ap (λ (w : PassValue). w.lists) low))
          (All-push IsUnused (passes_of ps hi) q (k.unused hi inside) (ap (λ (w : PassValue). w.lists) high))
          (λ t a b lt. k.unused t lt);
    }

-- no edge was made
pub none_made : (m : MapValue) (es : List EdgeValue) (ps : List (List PassValue)) → es ≡ [] → ps ≡ replicate (tiles_of m) [] → AreEdgesMade m 0 es ps
none_made m es ps is none = record {
  known = ap (λ l. length l) is;
  edges_are = record { numbers = λ e lt. absurd (let w = ap (λ l. length l) is in omega (arith, lt, w)); registers = λ e lt. absurd (let w = ap (λ l. length l) is in omega (arith, lt, w)) };
  tiles = ap (λ l. length l) none ∙ length-replicate (tiles_of m) [];
  each = λ t lt. ap (map edge_and_end) (empty t);
  unused = λ t lt. subst (All IsUnused) (sym (empty t)) (all-none IsUnused);
}
  where
    none_at : (n t : ℕ) → passes_of (replicate n []) t ≡ []
    none_at zero t = refl
    none_at (suc n) zero = refl
    none_at (suc n) (suc t) = none_at n t

    empty : (t : ℕ) → passes_of ps t ≡ []
    empty t = ap (λ l. passes_of l t) none ∙ none_at (tiles_of m) t
