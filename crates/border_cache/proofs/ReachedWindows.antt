-- Windows that are marked and read row by row of what a tile reaches, where no tile is off.
use Rattle.std.proofs.Common.{◌≡◌, ◌≢◌, ℕ, ◌+◌, ◌-◌, ◌<◌, ◌≤◌, ◌⊎◌, inl, inr, ⊎_elim, true, false, true≢false, cond, replicate, refl, sym, ap, ◌∙◌, arith, Option, Some, None}
use mathlib.Core.Logic.{dite}
use native.Mathlib.Decide.{ℕ_discrete}
use Rattle.std.specs.Prelude.{slice_index_or, slice_set, is_some}
use Rattle.std.proofs.lemmas.List.{get_or-set_same, get_or-set_other, get_or-replicate, length-set}
use Rattle.list_laws.proofs.Numbers.{less_or_same}
use Rattle.list_laws.proofs.Tests.{together}
use Rattle.bit_field.specs.Atom.{AtomValue, empty_atom}
use Rattle.window_sites.specs.Window.{WindowValue, IsWindow, atom_at, live_at}
use Rattle.tile_map.specs.Plane.{Site, MapValue, IsMap, site, is_whole, is_live, is_held, apart}
use Rattle.tile_map.specs.Edges.{window_site}
use Rattle.tile_map.specs.Laws.{IsPlane}
use Rattle.tile_map.specs.Tables.{reach_of}
use Rattle.tile_map.proofs.Spans.{le_test}
use Rattle.tile_map.proofs.Numbers.{size_low}
use Rattle.tile_map.proofs.Near.{window_site-near, window_site-found}
use Rattle.border_cache.specs.declared.row_runs.Run.{Run}
use Rattle.border_cache.specs.declared.border.Centre.{Centre}
use Rattle.border_cache.specs.Borders.{IsCentreOf, IsOnPlane, site_of}
use Rattle.border_cache.specs.Cells.{CellValue}
use Rattle.border_cache.specs.BorderRows.{reach}
use Rattle.border_cache.specs.Windows.{AreRowsOf, IsNear, IsRowRun, IsRunOf, IsView, is_shown}
use Rattle.border_cache.specs.Copies.{CacheValue, held_cell, cell_for, window_cells, place_held, HoldsWindow, IsCentre, Puts, Stores}
use Rattle.border_cache.specs.Reached.{IsNumbered, GivesAt, IsGiven, IsInRowAt, IsAboveRow, IsHidden, ShowsCell, ShowsAt}
use Rattle.border_cache.proofs.Apart.{sites_apart}
use Rattle.border_cache.proofs.BorderRows.{reached, window_near}
use Rattle.border_cache.proofs.Numbered.{numbered_site}
use Rattle.border_cache.proofs.Stored.{centre_holds, centre_column, centre_row}
use Rattle.border_cache.proofs.Views.{window_valid, view_is}

-- a site that the tile reaches is live, and the tile holds it
module _ (m : MapValue) (t : ℕ) (c : Site) (valid : IsMap m) (whole : is_whole m ≡ true) (holds : HoldsWindow m t c) where
  pub near_live : (k u w : ℕ) → IsNear (reach_of m t) c k u w → is_live m (site u w) ≡ true
  near_live k u w n = reached m t c k u w valid whole n

  pub near_held : (k u w : ℕ) → IsNear (reach_of m t) c k u w → is_held m t (site u w) ≡ true
  near_held k u w n =
      let f = window_site-found m c (site u w) (together _ _ (near_live k u w n) (le_test _ _ n.close)) in
      holds f.0 (site u w) (omega (arith, f.1)) f.2

-- two sites are one, or not
same_or_not : {A : Type 0} (s u : Site) → (s ≡ u → A) → ((s ≡ u → ⊥) → A) → A
same_or_not s u f g = dite (ℕ_discrete s.x u.x)
    (λ (x : s.x ≡ u.x). dite (ℕ_discrete s.y u.y)
    (λ (y : s.y ≡ u.y). f (λ i. site (x i) (y i)))
    (λ (not : s.y ≢ u.y). g (λ h. not (ap (λ q. q.y) h))))
    (λ (not : s.x ≢ u.x). g (λ h. not (ap (λ q. q.x) h)))

-- no site was given a cell
pub gives_none : (at : Site → Type 0) (c : Site) (cells : ℕ → CellValue) (v : CacheValue) → ((n : ℕ) (s : Site) → n < 41 → window_site v.map c n ≡ Some s → at s → ⊥) → GivesAt at c cells v v
gives_none at c cells v none = record { map = refl; tile = refl; done = λ n s lt is h. absurd (none n s lt is h); others = λ s h. inl refl }

-- one site was
pub gives_one : (u : Site) (c : Site) (cells : ℕ → CellValue) (n : ℕ) (old new : CacheValue) → n < 41 → window_site old.map c n ≡ Some u → Puts u (cells n) old new → GivesAt (λ s. s ≡ u) c cells old new
gives_one u c cells n old new lt is p = record {
  map = p.map;
  tile = p.tile;
  done = λ k s less at same. let e : k ≡ n = sites_apart old.map c u k n less lt (at ∙ ap Some same) is in ap (held_cell new) same ∙ (p.here ∙ ap cells (sym e));
  others = λ s h. same_or_not s u (λ same. inr (n, lt, is ∙ ap Some (sym same), ap (held_cell new) same ∙ p.here)) (λ not. inl (p.others s h not));
}

-- these sites and those
pub gives_then : (at by to : Site → Type 0) (c : Site) (cells : ℕ → CellValue) (old mid new : CacheValue) → HoldsWindow old.map old.tile c → ((s : Site) → to s → at s ⊎ by s) → GivesAt at c cells old mid → GivesAt by c cells mid new → GivesAt to c cells old new
gives_then at by to c cells old mid new holds either p q = record {
  map = q.map ∙ p.map;
  tile = q.tile ∙ p.tile;
  done = λ n s lt is h. ⊎_elim
      (λ a. ⊎_elim
      (λ same. same ∙ p.done n s lt is a)
      (λ (g : IsGiven mid.map c cells s (held_cell new s)). g.3 ∙ ap cells (sites_apart old.map c s g.0 n g.1 lt (sym (here g.0) ∙ g.2) is))
      (q.others s (held s (holds n s lt is))))
      (λ b. q.done n s lt (here n ∙ is) b)
      (either s h);
  others = λ s h. ⊎_elim
      (λ same. ⊎_elim
      (λ before. inl (same ∙ before))
      (λ (g : IsGiven old.map c cells s (held_cell mid s)). inr (g.0, g.1, g.2, same ∙ g.3))
      (p.others s h))
      (λ (g : IsGiven mid.map c cells s (held_cell new s)). inr (g.0, g.1, sym (here g.0) ∙ g.2, g.3))
      (q.others s (held s h));
}
  where
    here : (n : ℕ) → window_site mid.map c n ≡ window_site old.map c n
    here n = ap (λ m. window_site m c n) p.map

    held : (s : Site) → is_held old.map old.tile s ≡ true → is_held mid.map mid.tile s ≡ true
    held s h = (λ i. is_held (p.map i) (p.tile i) s) ∙ h

-- the same sites, told otherwise
pub gives_same : (at to : Site → Type 0) (c : Site) (cells : ℕ → CellValue) (old new : CacheValue) → ((n : ℕ) (s : Site) → n < 41 → window_site old.map c n ≡ Some s → to s → at s) → GivesAt at c cells old new → GivesAt to c cells old new
gives_same at to c cells old new from g = record { map = g.map; tile = g.tile; done = λ n s lt is h. g.done n s lt is (from n s lt is h); others = g.others }

-- all of them
pub gives_all : (at : Site → Type 0) (c : Site) (cells : ℕ → CellValue) (old new : CacheValue) → ((n : ℕ) (s : Site) → n < 41 → window_site old.map c n ≡ Some s → at s) → GivesAt at c cells old new → Stores c cells old new
gives_all at c cells old new all g = record {
  differs = record {
    map = g.map;
    tile = g.tile;
    others = λ s h out. ⊎_elim
        (λ same. same)
        (λ (x : IsGiven old.map c cells s (held_cell new s)). absurd (true≢false (sym (window_site-near old.map c s x.0 (omega (arith, x.1)) x.2) ∙ out)))
        (g.others s h);
  };
  done = λ n s lt is. g.done n s lt is (all n s lt is);
}

-- a window that shows one site more
pub shows_more : (at to : Site → Type 0) (v : CacheValue) (c u : Site) (n : ℕ) (w : WindowValue) → n < 41 → window_site v.map c n ≡ Some u → ((s : Site) → to s → at s ⊎ (s ≡ u)) → ShowsAt at v c w
    → ShowsAt to v c (record { atoms = slice_set w.atoms n (held_cell v u).atom; live = slice_set w.live n true })
shows_more at to v c u n w lt is either h = record {
  atoms = length-set w.atoms n (held_cell v u).atom ∙ h.atoms;
  live = length-set w.live n true ∙ h.live;
  done = λ k s less on q. dite (ℕ_discrete k n)
      (λ (e : k ≡ n). now_live k e)
      (λ (not : k ≢ n). get_or-set_other w.live n k true false not ∙ ⊎_elim (λ a. h.done k s less on a) (λ b. absurd (not (sites_apart v.map c u k n less lt (on ∙ ap Some b) is))) (either s q));
  each = λ k less. dite (ℕ_discrete k n)
      (λ (e : k ≡ n). inr (now_live k e, ap (is_shown v.map c) e ∙ ap is_some is, now_atom k e))
      (λ (not : k ≢ n).
      let a = get_or-set_other w.atoms n k (held_cell v u).atom empty_atom not in
      let b = get_or-set_other w.live n k true false not in
      ⊎_elim (λ (p : IsHidden w k). inl (b ∙ p.0, a ∙ p.1)) (λ (p : ShowsCell v c w k). inr (b ∙ p.0, p.1, a ∙ p.2)) (h.each k less));
}
  where
    now_live : (k : ℕ) → k ≡ n → slice_index_or (slice_set w.live n true) k false ≡ true
    now_live k e = ap (λ j. slice_index_or (slice_set w.live n true) j false) e ∙ get_or-set_same w.live n true false (omega (arith, lt, h.live))

    now_atom : (k : ℕ) → k ≡ n → slice_index_or (slice_set w.atoms n (held_cell v u).atom) k empty_atom ≡ (window_cells v c k).atom
    now_atom k e = ap (λ j. slice_index_or (slice_set w.atoms n (held_cell v u).atom) j empty_atom) e
        ∙ (get_or-set_same w.atoms n (held_cell v u).atom empty_atom (omega (arith, lt, h.atoms)) ∙ sym (ap (λ j. (window_cells v c j).atom) e ∙ ap (λ o. (cell_for v o).atom) is))

-- the same sites, told otherwise
pub shows_same : (at to : Site → Type 0) (v : CacheValue) (c : Site) (w : WindowValue) → ((n : ℕ) (s : Site) → n < 41 → window_site v.map c n ≡ Some s → to s → at s) → ShowsAt at v c w → ShowsAt to v c w
shows_same at to v c w from h = record { atoms = h.atoms; live = h.live; done = λ n s lt is q. h.done n s lt is (from n s lt is q); each = h.each }

-- a window that shows all its sites
module _ (at : Site → Type 0) (v : CacheValue) (c : Site) (w : WindowValue) (all : (n : ℕ) (s : Site) → n < 41 → window_site v.map c n ≡ Some s → at s) (h : ShowsAt at v c w) where
  shows : (n : ℕ) → n < 41 → (live_at w n ≡ is_shown v.map c n) × (atom_at w n ≡ cond (is_shown v.map c n) (window_cells v c n).atom empty_atom)
  shows n lt = go (window_site v.map c n) refl
    where
      go : (o : Option Site) → window_site v.map c n ≡ o → (live_at w n ≡ is_shown v.map c n) × (atom_at w n ≡ cond (is_shown v.map c n) (window_cells v c n).atom empty_atom)
      go None is =
          let off : is_shown v.map c n ≡ false = ap is_some is in
          ⊎_elim
          (λ (p : IsHidden w n). (p.0 ∙ sym off, p.1 ∙ sym (ap (λ b. cond b (window_cells v c n).atom empty_atom) off)))
          (λ (p : ShowsCell v c w n). absurd (true≢false (sym p.1 ∙ off)))
          (h.each n lt)
      go (Some s) is =
          let on : is_shown v.map c n ≡ true = ap is_some is in
          let live = h.done n s lt is (all n s lt is) in
          ⊎_elim
          (λ (p : IsHidden w n). absurd (true≢false (sym live ∙ p.0)))
          (λ (p : ShowsCell v c w n). (live ∙ sym on, p.2 ∙ sym (ap (λ b. cond b (window_cells v c n).atom empty_atom) on)))
          (h.each n lt)

  all_marks : (n : ℕ) → n < 41 → live_at w n ≡ is_shown v.map c n
  all_marks n lt = (shows n lt).0

  all_atoms : (n : ℕ) → n < 41 → atom_at w n ≡ cond (is_shown v.map c n) (window_cells v c n).atom empty_atom
  all_atoms n lt = (shows n lt).1

  pub shows_valid : is_live v.map c ≡ true → IsWindow w
  shows_valid live = window_valid v.map c w.atoms w.live (window_cells v c) live h.atoms h.live all_marks all_atoms

  pub shows_view : is_live v.map c ≡ true → IsView v.map c (window_cells v c) w
  shows_view live = view_is v.map c w.atoms w.live (window_cells v c) live h.atoms h.live all_marks all_atoms

-- a site is in row j of the window at c, before column u
abbrev pub IsBefore : Site → ℕ → ℕ → Site → Type 0
IsBefore c j u s = IsInRowAt c j s × (s.x < u)

-- a site is in a row before row j, or in it and before column u
abbrev pub IsShownTo : Site → ℕ → ℕ → Site → Type 0
IsShownTo c j u s = IsAboveRow c j s ⊎ IsBefore c j u s

-- one more column
pub before_or : (c : Site) (j u row : ℕ) (s : Site) → row + 4 ≡ c.y + j → IsBefore c j (u + 1) s → IsBefore c j u s ⊎ (s ≡ site u row)
before_or c j u row s is (here, lt) = ⊎_elim
    (λ (less : s.x < u). inl (here, less))
    (λ (x : s.x ≡ u). let y : s.y ≡ row = omega (arith, is, here) in inr (λ i. site (x i) (y i)))
    (less_or_same s.x u lt)

pub shown_or : (c : Site) (j u row : ℕ) (s : Site) → row + 4 ≡ c.y + j → IsShownTo c j (u + 1) s → IsShownTo c j u s ⊎ (s ≡ site u row)
shown_or c j u row s is (inl above) = inl (inl above)
shown_or c j u row s is (inr here) = ⊎_elim (λ b. inl (inr b)) inr (before_or c j u row s is here)

-- one more row
pub above_next : (c : Site) (j : ℕ) (s : Site) → IsAboveRow c (j + 1) s → IsAboveRow c j s ⊎ IsInRowAt c j s
above_next c j s lt = less_or_same (s.y + 4) (c.y + j) (omega (arith, lt))

-- a column of a run, and the column of the window there
pub record InColumn (c : Site) (j u : ℕ) : Type 0 where
  pub from : c.x ≤ u + 4
  pub to : u ≤ c.x + 4
  pub close : apart 4 j + apart 4 (u + 4 - c.x) ≤ 4

module _ (v : CacheValue) (c : Site) (j : ℕ) (r : Run) (is : IsRunOf (reach v) c j r) where
  pub in_column : (u : ℕ) → r.west ≤ u → u < r.east → InColumn c j u
  in_column u lo hi =
      let close = (is.near u lo hi).close in
      let row = is.row in
      record { from = omega (arith, close); to = omega (arith, close); close = omega (arith, close, row) }

  module _ (holds : HoldsWindow v.map v.tile c) where
    -- a site of the row is in the run
    in_run : (n : ℕ) (s : Site) → n < 41 → window_site v.map c n ≡ Some s → IsInRowAt c j s → (r.west ≤ s.x) × (s.x < r.east)
    in_run n s lt at here = let q = is.all (place_held v.map v.tile s) s.x s.y (window_near v.map v.tile c holds n s lt at) here in (q.0, q.1)

    pub none_before : (n : ℕ) (s : Site) → n < 41 → window_site v.map c n ≡ Some s → IsBefore c j r.west s → ⊥
    none_before n s lt at (here, less) = let q = in_run n s lt at here in omega (arith, q.0, less)

    pub all_before : (n : ℕ) (s : Site) → n < 41 → window_site v.map c n ≡ Some s → IsInRowAt c j s → IsBefore c j r.east s
    all_before n s lt at here = (here, (in_run n s lt at here).1)

    pub shown_begins : (n : ℕ) (s : Site) → n < 41 → window_site v.map c n ≡ Some s → IsShownTo c j r.west s → IsAboveRow c j s
    shown_begins n s lt at (inl above) = above
    shown_begins n s lt at (inr here) = absurd (none_before n s lt at here)

    pub shown_all : (n : ℕ) (s : Site) → n < 41 → window_site v.map c n ≡ Some s → IsAboveRow c (j + 1) s → IsShownTo c j r.east s
    shown_all n s lt at h = ⊎_elim inl (λ here. inr (all_before n s lt at here)) (above_next c j s h)

    module _ (valid : IsMap v.map) (whole : is_whole v.map ≡ true) where
      pub run_held : (u : ℕ) → r.west ≤ u → u < r.east → is_held v.map v.tile (site u r.row) ≡ true
      run_held u lo hi = near_held v.map v.tile c valid whole holds (r.start + (u - r.west)) u r.row (is.near u lo hi)

      pub run_site : (u n : ℕ) → r.west ≤ u → u < r.east → IsNumbered j (u + 4 - c.x) n → window_site v.map c n ≡ Some (site u r.row)
      run_site u n lo hi number =
          let live = near_live v.map v.tile c valid whole holds (r.start + (u - r.west)) u r.row (is.near u lo hi) in
          let from = (in_column u lo hi).from in
          numbered_site v.map c j (u + 4 - c.x) n u r.row number is.row (omega (arith, from)) live

module _ (v : CacheValue) (c : Site) (holds : HoldsWindow v.map v.tile c) where
  -- a row of which the tile reaches no site
  pub no_row : (j : ℕ) → IsRowRun (reach v) c j None → (n : ℕ) (s : Site) → n < 41 → window_site v.map c n ≡ Some s → IsInRowAt c j s → ⊥
  no_row j none n s lt at here = none (place_held v.map v.tile s) s.x s.y (window_near v.map v.tile c holds n s lt at) here

  -- the rows that have sites
  pub none_above : (first end : ℕ) → AreRowsOf (reach v) c first end → (n : ℕ) (s : Site) → n < 41 → window_site v.map c n ≡ Some s → IsAboveRow c first s → ⊥
  none_above first end rows n s lt at less = let q = rows.rows (place_held v.map v.tile s) s.x s.y (window_near v.map v.tile c holds n s lt at) in omega (arith, q.0, less)

  pub all_above : (first end j : ℕ) → AreRowsOf (reach v) c first end → end ≤ j → (n : ℕ) (s : Site) → n < 41 → window_site v.map c n ≡ Some s → IsAboveRow c j s
  all_above first end j rows le n s lt at = let q = rows.rows (place_held v.map v.tile s) s.x s.y (window_near v.map v.tile c holds n s lt at) in omega (arith, q.1, le)

-- how far a centre may lie
pub centre_low : (m : MapValue) (c : Centre) → IsOnPlane m c → (c.x < 512) × (c.y < 512)
centre_low m c plane =
    let s = plane.valid.sizes in
    let wide = size_low m.tx m.w s.tx_high s.w_high in
    let high = size_low m.ty m.h s.ty_high s.h_high in
    (omega (arith, plane.x, wide), omega (arith, plane.y, high))

-- a window that shows no site yet
pub shows_none : (at : Site → Type 0) (v : CacheValue) (c : Site) (a : AtomValue) → a ≡ empty_atom → ((n : ℕ) (s : Site) → n < 41 → window_site v.map c n ≡ Some s → at s → ⊥) → ShowsAt at v c (record { atoms = replicate 41 a; live = replicate 41 false })
shows_none at v c a is none = record {
  atoms = refl;
  live = refl;
  done = λ n s lt on h. absurd (none n s lt on h);
  each = λ n lt. inl (get_or-replicate 41 n false false lt, get_or-replicate 41 n a empty_atom lt ∙ is);
}

-- a centre of the copy's own plane
pub own_centre : (v : CacheValue) (c : Centre) → IsMap v.map → IsPlane v.map → IsCentre v.map v.tile (site_of c) → IsCentreOf v.map v c
own_centre v c valid plane centre = record {
  map = refl;
  plane = record { valid = valid; x = centre_column v.map v.tile (site_of c) centre; y = centre_row v.map v.tile (site_of c) centre };
  holds = centre_holds v.map plane v.tile (site_of c) centre;
}
