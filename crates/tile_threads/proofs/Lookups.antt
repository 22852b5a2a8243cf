-- The passes of a tile, by the numbers of their edges.
use Rattle.std.proofs.Common.{◌≡◌, ℕ, ◌<◌, ◌≤◌, eqb, Bool, true, false, cond, List, [], ◌∷◌, map, length, refl, sym, ap, ◌∙◌, subst, arith, inl, inr, ⊎_elim, eq-eqb, ne_eqb, Some}
use Rattle.std.specs.Prelude.{All, slice_get}
use Rattle.std.specs.List.{range_with_len}
use Rattle.std.proofs.lemmas.Option.{slice_get-get_or}
use mathlib.Core.Logic.{dite}
use native.Mathlib.Decide.{ℕ_discrete}
use Rattle.list_laws.proofs.Members.{In, in_filter, filter_in, in_range, range_in}
use Rattle.tile_map.specs.Plane.{MapValue}
use Rattle.tile_map.specs.Edges.{has_end}
use Rattle.edge_lock.specs.EndLists.{end_lists}
use Rattle.edge_lock.specs.Passes.{EdgeValue, PassValue}
use Rattle.edge_lock.specs.SharedEnds.{EdgeAndEnd, edge_and_end, IsPassOf, pass_registers, pass_end, pass_lists}
use Rattle.edge_lock.proofs.HistorySteps.{all-cons, all-none, all-head, all-tail}
use Rattle.border_cache.specs.Windows.{end_at}
use Rattle.tile_threads.specs.Passes.{no_edge, edge_of, right_to, AreEdges, own_edges, HasPasses, IsUnused}

-- what a list of passes says of an edge of its own
pub record Found (m : MapValue) (edges : List EdgeValue) (t e : ℕ) (ps : List PassValue) : Type 0 where
  pub registers : pass_registers ps e ≡ (edge_of edges e).registers
  pub end : pass_end ps e ≡ end_at m t e

module _ (m : MapValue) (edges : List EdgeValue) (a : AreEdges m edges) (t : ℕ) where
  abbrev Known : List ℕ → Type 0
  Known ks = (k : ℕ) → In k ks → k < length edges

  found : (ks : List ℕ) (ps : List PassValue) → Known ks → map edge_and_end ps ≡ map (right_to m edges t) ks → (e : ℕ) → In e ks → Found m edges t e ps
  found [] ps known is e i = absurd i
  found (k ∷ ks) [] known is e i = absurd (cc is)
  found (k ∷ ks) (p ∷ ps) known is e i =
      let here : edge_and_end p ≡ right_to m edges t k = cc is in
      let rest : map edge_and_end ps ≡ map (right_to m edges t) ks = cc is in
      let number : p.of.number ≡ k = ap (λ (w : EdgeAndEnd). w.of.number) here ∙ a.numbers k (known k (inl refl)) in
      dite (ℕ_discrete k e)
      (λ same. let hit = eq-eqb p.of.number e (number ∙ same) in record {
        registers = ap (λ b. cond b p.of.registers (pass_registers ps e)) hit ∙ (ap (λ (w : EdgeAndEnd). w.of.registers) here ∙ ap (λ j. (edge_of edges j).registers) same);
        end = ap (λ b. cond b p.end (pass_end ps e)) hit ∙ (ap (λ (w : EdgeAndEnd). w.end) here ∙ ap (end_at m t) same);
      })
      (λ apart. let miss = ne_eqb p.of.number e (λ h. apart (sym number ∙ h)) in
      let f = found ks ps (λ j q. known j (inr q)) rest e (⊎_elim (λ h. absurd (apart (sym h))) (λ q. q) i) in record {
        registers = ap (λ b. cond b p.of.registers (pass_registers ps e)) miss ∙ f.registers;
        end = ap (λ b. cond b p.end (pass_end ps e)) miss ∙ f.end;
      })

  passes_stand : (ks : List ℕ) (ps : List PassValue) → Known ks → map edge_and_end ps ≡ map (right_to m edges t) ks → All (IsPassOf edges) ps
  passes_stand ks [] known is = all-none (IsPassOf edges)
  passes_stand [] (p ∷ ps) known is = absurd (cc is)
  passes_stand (k ∷ ks) (p ∷ ps) known is =
      let here : edge_and_end p ≡ right_to m edges t k = cc is in
      let rest : map edge_and_end ps ≡ map (right_to m edges t) ks = cc is in
      let lt = known k (inl refl) in
      let of : p.of ≡ edge_of edges k = ap (λ (w : EdgeAndEnd). w.of) here in
      all-cons (IsPassOf edges) p ps
      (subst (λ x. slice_get edges x.number ≡ Some x) (sym of) (ap (slice_get edges) (a.numbers k lt) ∙ slice_get-get_or edges k no_edge lt))
      (passes_stand ks ps (λ j q. known j (inr q)) rest)

  -- the tile has the edges that a list of its passes is of
  module _ (n : ℕ) (few : n ≤ length edges) (ps : List PassValue) (h : HasPasses m edges t (own_edges m t 0 n) ps) where
    own_known : Known (own_edges m t 0 n)
    own_known k i = let r = range_in 0 n k (filter_in (has_end m t) (range_with_len 0 n) k i).0 in let lt = r.1 in omega (arith, lt, few)

    pub found_own : (e : ℕ) → e < n → has_end m t e ≡ true → Found m edges t e ps
    found_own e lt own = found (own_edges m t 0 n) ps own_known h e (in_filter (has_end m t) (range_with_len 0 n) e (in_range 0 n e (omega arith) (omega (arith, lt))) own)

    pub own_stand : All (IsPassOf edges) ps
    own_stand = passes_stand (own_edges m t 0 n) ps own_known h

-- unused passes have no lists
pub unused_lists : (ps : List PassValue) → All IsUnused ps → (e : ℕ) → pass_lists ps e ≡ end_lists [] []
unused_lists [] a e = refl
unused_lists (p ∷ ps) a e = go (eqb p.of.number e) (unused_lists ps (all-tail IsUnused p ps a) e)
  where
    go : (b : Bool) → pass_lists ps e ≡ end_lists [] [] → cond b p.lists (pass_lists ps e) ≡ end_lists [] []
    go true r = all-head IsUnused p ps a
    go false r = r

-- two functions that agree on a list
pub map_same : {X Y : Type 0} (f g : X → Y) (xs : List X) → ((x : X) → In x xs → f x ≡ g x) → map f xs ≡ map g xs
map_same f g [] h = refl
map_same f g (x ∷ xs) h = λ i. h x (inl refl) i ∷ map_same f g xs (λ y q. h y (inr q)) i
