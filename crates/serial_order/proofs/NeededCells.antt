-- The cells of a site on the edges that share it: those that an event there needs have them all.
use Rattle.std.proofs.Common.{ℕ, zero, suc, ◌≡◌, ◌<◌, ◌≤◌, ◌+◌, ◌*◌, List, [], ◌∷◌, refl, sym, ap, arith, Bool, true, false, Option, Some, None, ◌∙◌, ◌==◌, ◌&&◌, length, drop, get_or, eqb-true, inl, inr, le-leb, ltb-true}
use Rattle.std.specs.Prelude.{filter, if◌then◌else◌}
use Rattle.std.specs.List.{range_with_len}
use Rattle.std.proofs.lemmas.Bool.{and_left, and_right, false_from_ne_true}
use Rattle.std.proofs.lemmas.Bool.Decides.{nat_tests}
use Rattle.list_laws.proofs.Members.{In, filter_in, in_get, range_in}
use Rattle.list_laws.proofs.Tests.{both, together}
use Rattle.tile_map.specs.Plane.{Site, MapValue, site, tiles_of, is_held, is_live, in_window, apart, sites_of}
use Rattle.tile_map.specs.Edges.{pairs_of, low_end, high_end, other_end, has_end, edges_at, needs_of, is_needed, reaches}
use Rattle.tile_map.specs.Laws.{IsPlane}
use Rattle.tile_map.proofs.Near.{reaches-held}
use Rattle.tile_map.proofs.Registers.{number_none}
use Rattle.tile_map.proofs.Spans.{held_parts, live_plane, on_low}
use Rattle.border_cache.specs.Cells.{CellValue, newer, newest}
use Rattle.border_cache.specs.Windows.{and_cell, edge_place}
use Rattle.serial_order.specs.Settled.{cell_in_registers, edge_cells}

-- an edge shares no site that one of its ends does not hold
not_shared : (m : MapValue) (t e : ℕ) (s : Site) → is_held m (other_end m t e) s ≡ false → edge_place m e s ≡ None
not_shared m t e s out = number_none (λ q. is_held m (low_end m e) q && is_held m (high_end m e) q) (sites_of m) s (go (low_end m e == t) out)
  where
    go : (b : Bool) → is_held m (if b then high_end m e else low_end m e) s ≡ false → (is_held m (low_end m e) s && is_held m (high_end m e) s) ≡ false
    go true q = and_right (is_held m (low_end m e) s) (is_held m (high_end m e) s) q
    go false q = and_left (is_held m (low_end m e) s) (is_held m (high_end m e) s) q

module _ (m : MapValue) (registers : ℕ → ℕ → ℕ) (t : ℕ) (s : Site) where
  -- the needed edges have all cells of a live site
  pub needed_cells : is_live m s ≡ true → edge_cells m registers (needs_of m t s) s ≡ edge_cells m registers (edges_at m t) s
  needed_cells live = among (range_with_len 0 (length (pairs_of m)))
    where
      centre : in_window m s s ≡ true
      centre = together _ _ live (le-leb (apart s.x s.x + apart s.y s.y) 4 (omega arith))

      among : (es : List ℕ) → edge_cells m registers (filter (is_needed m t s) es) s ≡ edge_cells m registers (filter (has_end m t) es) s
      among [] = refl
      among (e ∷ es) = go (has_end m t e) (reaches m s (other_end m t e)) (λ q. not_shared m t e s (false_from_ne_true _ (λ h. cc (reaches-held m s s (other_end m t e) centre h, q)))) (among es)
        where
          go : (a b : Bool) → (b ≡ false → edge_place m e s ≡ None) → edge_cells m registers (filter (is_needed m t s) es) s ≡ edge_cells m registers (filter (has_end m t) es) s
              → edge_cells m registers (if a && b then e ∷ filter (is_needed m t s) es else filter (is_needed m t s) es) s ≡ edge_cells m registers (if a then e ∷ filter (has_end m t) es else filter (has_end m t) es) s
          go false b none rest = rest
          go true true none rest = ap (λ cs. and_cell (cell_in_registers (registers e) (edge_place m e s)) cs) rest
          go true false none rest = rest ∙ ap (λ p. and_cell (cell_in_registers (registers e) p) (edge_cells m registers (filter (has_end m t) es) s)) (sym (none refl))

  -- no edge has a cell of a site that no other tile holds
  pub no_cells : IsPlane m → ((u : ℕ) → is_held m u s ≡ true → u ≡ t) → edge_cells m registers (edges_at m t) s ≡ []
  no_cells plane alone = among (range_with_len 0 (length (pairs_of m))) (λ e i. let parts = range_in 0 (length (pairs_of m)) e i in omega (arith, parts.1))
    where
      other : (e : ℕ) → e < length (pairs_of m) → other_end m t e ≡ t → ⊥
      other e lt = go (low_end m e == t) refl
        where
          go : (b : Bool) → (low_end m e == t) ≡ b → (if b then high_end m e else low_end m e) ≡ t → ⊥
          go true q is = let rise = (plane.edges.ends e lt).0 in let low = eqb-true (low_end m e) t q in absurd (omega (arith, rise, low, is))
          go false q is = absurd (grind (arith, nat_tests, q, is))

      among : (es : List ℕ) → ((e : ℕ) → In e es → e < length (pairs_of m)) → edge_cells m registers (filter (has_end m t) es) s ≡ []
      among [] low = refl
      among (e ∷ es) low = go (has_end m t e) (not_shared m t e s (false_from_ne_true _ (λ h. other e (low e (inl refl)) (alone (other_end m t e) h)))) (among es (λ d i. low d (inr i)))
        where
          go : (a : Bool) → edge_place m e s ≡ None → edge_cells m registers (filter (has_end m t) es) s ≡ [] → edge_cells m registers (if a then e ∷ filter (has_end m t) es else filter (has_end m t) es) s ≡ []
          go false none rest = rest
          go true none rest = ap (λ p. and_cell (cell_in_registers (registers e) p) (edge_cells m registers (filter (has_end m t) es) s)) none ∙ rest

-- what an event needs is an edge
pub needed_low : (m : MapValue) (t : ℕ) (s : Site) (i : ℕ) → i < length (needs_of m t s) → get_or (needs_of m t s) i 0 < length (pairs_of m)
needed_low m t s i lt =
    let member = filter_in (is_needed m t s) (range_with_len 0 (length (pairs_of m))) (get_or (needs_of m t s) i 0) (in_get (needs_of m t s) i 0 lt) in
    let parts = range_in 0 (length (pairs_of m)) (get_or (needs_of m t s) i 0) member.0 in
    omega (arith, parts.1)

-- one edge more
pub next_newest : (m : MapValue) (registers : ℕ → ℕ → ℕ) (s : Site) (es : List ℕ) (i e : ℕ) (best own : CellValue) → i < length es → e ≡ get_or es i 0
    → newest best (edge_cells m registers (drop i es) s) ≡ own → newest (newer best (cell_in_registers (registers e) (edge_place m e s))) (edge_cells m registers (drop (i + 1) es) s) ≡ own
next_newest m registers s [] i e best own lt is done = absurd (omega (arith, lt))
next_newest m registers s (d ∷ es) zero e best own lt is done =
    two (cell_in_registers (registers e) (edge_place m e s)) ∙ ap (λ k. newest best (edge_cells m registers (k ∷ es) s)) is ∙ done
  where
    two : (o : Option CellValue) → newest (newer best o) (edge_cells m registers es s) ≡ newest best (and_cell o (edge_cells m registers es s))
    two None = refl
    two (Some c) = refl
next_newest m registers s (d ∷ es) (suc i) e best own lt is done =
    let more : suc i + 1 ≡ suc (i + 1) = omega arith in
    ap (λ k. newest (newer best (cell_in_registers (registers e) (edge_place m e s))) (edge_cells m registers (drop k (d ∷ es)) s)) more
    ∙ next_newest m registers s es i e best own (omega (arith, lt)) is done

pub last_newest : (m : MapValue) (registers : ℕ → ℕ → ℕ) (s : Site) (es : List ℕ) (i : ℕ) (best : CellValue) → length es ≤ i → newest best (edge_cells m registers (drop i es) s) ≡ best
last_newest m registers s [] zero best le = refl
last_newest m registers s [] (suc i) best le = refl
last_newest m registers s (d ∷ es) zero best le = absurd (omega (arith, le))
last_newest m registers s (d ∷ es) (suc i) best le = last_newest m registers s es i best (omega (arith, le))

-- what is held is a site of the plane
pub held_inside : (m : MapValue) (t x y : ℕ) → is_held m t (site x y) ≡ true → (t < tiles_of m) × (x < m.tx * m.w) × (y < m.ty * m.h)
held_inside m t x y held =
    let p = held_parts m t (site x y) held in
    let inside = both _ _ (live_plane m (site x y) p.live) in
    (on_low m t p.on, ltb-true _ _ inside.0, ltb-true _ _ inside.1)
