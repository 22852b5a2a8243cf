-- The places of held sites, and cells that are stored at the sites of a window.
use Rattle.std.proofs.Common.{◌≡◌, ℕ, zero, suc, ◌+◌, ◌-◌, ◌*◌, ◌/◌, ◌%◌, ◌<◌, eqb, Bool, true, false, cond, true≢false, List, [], ◌∷◌, length, get_or, replicate, refl, sym, ap, ◌∙◌, subst, arith, ⊎_elim, Option, Some, None, ltb-true}
use Rattle.std.specs.Prelude.{slice_set, slice_index_or, All}
use Rattle.std.specs.List.Sorted.{IsStrictlyIncreasing}
use Rattle.std.proofs.lemmas.Bool.Decides.{nat_tests}
use Rattle.std.proofs.lemmas.List.{get_or-set_same, get_or-set_other, get_or_default, get_or-replicate, length-replicate}
use Rattle.std.proofs.lemmas.Nat.{mul-add-lt, same_from_place, mod-mul-add, div-mul-add}
use Rattle.list_laws.proofs.Numbers.{less_or_same}
use Rattle.tile_map.specs.Plane.{Site, MapValue, site, is_held}
use Rattle.tile_map.specs.Spans.{left_of, top_of}
use Rattle.tile_map.specs.Edges.{window_site, needs_of, has_end, low_end, high_end}
use Rattle.tile_map.specs.Laws.{IsPlane, Joins}
use Rattle.tile_map.proofs.Spans.{held_span, live_plane}
use Rattle.tile_map.proofs.Near.{window_site-near}
use Rattle.list_laws.proofs.Tests.{both}
use Rattle.cell_grid.specs.Grid.{GridValue, site_atom}
use Rattle.edge_lock.specs.EndLists.{EndLists, IsHeld}
use Rattle.bit_field.specs.Atom.{AtomValue}
use Rattle.border_cache.specs.Cells.{CellValue, cell_value, paired_cells, newest}
use Rattle.border_cache.specs.News.{no_cell}
use Rattle.border_cache.specs.Windows.{has, end_at, IsEdgeFor}
use Rattle.border_cache.specs.Copies.{CacheValue, cache_of, columns_of, rows_of, place_held, held_cell, cell_for, window_cells, Puts, PutsFor, HoldsWindow, IsCentre, IsEndOf, IsFirstCopy, IsFirstRectangle, Stores, Refreshed, copy_at, Patch, patch, AreAtomsIn}
use Rattle.border_cache.proofs.Apart.{sites_apart}
use Rattle.border_cache.proofs.Needs.{adds_all_begins}
use Rattle.border_cache.proofs.Planes.{length-cells, cell_in_both}
use Rattle.edge_lock.specs.EndValues.{EndValue, SameEnd}

pub place_inside : (m : MapValue) (t : ℕ) (s : Site) → is_held m t s ≡ true → place_held m t s < columns_of m t * rows_of m t
place_inside m t s h =
    let p = held_span m t s.x s.y h in
    mul-add-lt (s.y - top_of m t) (columns_of m t) (s.x - left_of m t) (rows_of m t) (omega (arith, p.3, p.4)) (omega (arith, p.1, p.2))

-- two held sites of one place are one
pub place_one : (m : MapValue) (t : ℕ) (s u : Site) → is_held m t s ≡ true → is_held m t u ≡ true → place_held m t s ≡ place_held m t u → s ≡ u
place_one m t s u h k same =
    let p = held_span m t s.x s.y h in
    let q = held_span m t u.x u.y k in
    let e = same_from_place (s.y - top_of m t) (s.x - left_of m t) (u.y - top_of m t) (u.x - left_of m t) (columns_of m t) (omega (arith, p.1, p.2)) (omega (arith, q.1, q.2)) same in
    let x : s.x ≡ u.x = omega (arith, e.1, p.1, q.1) in
    let y : s.y ≡ u.y = omega (arith, e.0, p.3, q.3) in
    λ i. site (x i) (y i)

pub puts : (v : CacheValue) (s : Site) (cell : CellValue) → is_held v.map v.tile s ≡ true → length v.cells ≡ columns_of v.map v.tile * rows_of v.map v.tile
    → Puts s cell v (cache_of v.map v.tile (slice_set v.cells (place_held v.map v.tile s) cell))
puts v s cell held long = record {
  map = refl;
  tile = refl;
  here = get_or-set_same v.cells (place_held v.map v.tile s) cell no_cell (let lt = place_inside v.map v.tile s held in omega (arith, lt, long));
  others = λ u h apart. get_or-set_other v.cells (place_held v.map v.tile s) (place_held v.map v.tile u) cell no_cell (λ same. apart (place_one v.map v.tile u s h held same));
}

pub put_skipped : (v : CacheValue) (o : Option Site) (cell : CellValue) → o ≡ None → PutsFor o cell v v
put_skipped v o cell is = subst (λ p. PutsFor p cell v v) (sym is) refl

-- the first k sites of a window have their cells, and nothing else changed
pub record StoresFirst (c : Site) (k : ℕ) (cells : ℕ → CellValue) (old new : CacheValue) : Type 0 where
  pub map : new.map ≡ old.map
  pub tile : new.tile ≡ old.tile
  pub done : (n : ℕ) (s : Site) → n < k → window_site old.map c n ≡ Some s → held_cell new s ≡ cells n
  pub rest : (s : Site) → is_held old.map old.tile s ≡ true → ((n : ℕ) → n < k → window_site old.map c n ≡ Some s → ⊥) → held_cell new s ≡ held_cell old s

pub stores_none : (c : Site) (cells : ℕ → CellValue) (v : CacheValue) → StoresFirst c 0 cells v v
stores_none c cells v = record { map = refl; tile = refl; done = λ n s lt. absurd (omega (arith, lt)); rest = λ s h k. refl }

module _ (c : Site) (k : ℕ) (cells : ℕ → CellValue) (old mid new : CacheValue) (lt : k < 41) (holds : HoldsWindow old.map old.tile c) (v : StoresFirst c k cells old mid) where
  -- site k is not live
  past : window_site old.map c k ≡ None → new ≡ mid → StoresFirst c (k + 1) cells old new
  past out same = record {
    map = ap (λ w. w.map) same ∙ v.map;
    tile = ap (λ w. w.tile) same ∙ v.tile;
    done = λ n s less at. ⊎_elim
        (λ (h : n < k). ap (λ w. held_cell w s) same ∙ v.done n s h at)
        (λ (h : n ≡ k). let e : window_site old.map c k ≡ Some s = ap (window_site old.map c) (sym h) ∙ at in absurd (cc (e, out)))
        (less_or_same n k less);
    rest = λ s h f. ap (λ w. held_cell w s) same ∙ v.rest s h (λ n less at. f n (omega (arith, less)) at);
  }

  -- site k has its cell
  put : (u : Site) → window_site old.map c k ≡ Some u → Puts u (cells k) mid new → StoresFirst c (k + 1) cells old new
  put u at p = record {
    map = p.map ∙ v.map;
    tile = p.tile ∙ v.tile;
    done = λ n s less is. ⊎_elim
        (λ (h : n < k). other s (holds n s (omega (arith, h, lt)) is) (λ e. let q : window_site old.map c n ≡ Some u = is ∙ ap Some e in absurd (omega (arith, h, sites_apart old.map c u n k (omega (arith, h, lt)) lt q at))) ∙ v.done n s h is)
        (λ (h : n ≡ k). let e : Some s ≡ Some u = sym is ∙ (ap (window_site old.map c) h ∙ at) in ap (held_cell new) (cc e) ∙ (p.here ∙ ap cells (sym h)))
        (less_or_same n k less);
    rest = λ s h f. other s h (λ e. f k (omega arith) (at ∙ ap Some (sym e))) ∙ v.rest s h (λ n less is. f n (omega (arith, less)) is);
  }
    where
      held_mid : (s : Site) → is_held old.map old.tile s ≡ true → is_held mid.map mid.tile s ≡ true
      held_mid s h = ap (λ m. is_held m mid.tile s) v.map ∙ (ap (λ t. is_held old.map t s) v.tile ∙ h)

      other : (s : Site) → is_held old.map old.tile s ≡ true → (s ≡ u → ⊥) → held_cell new s ≡ held_cell mid s
      other s h apart = p.others s (held_mid s h) apart

  pub stores_more : PutsFor (window_site mid.map c k) (cells k) mid new → StoresFirst c (k + 1) cells old new
  stores_more p = go (window_site old.map c k) refl (subst (λ m. PutsFor (window_site m c k) (cells k) mid new) v.map p)
    where
      go : (o : Option Site) → window_site old.map c k ≡ o → PutsFor o (cells k) mid new → StoresFirst c (k + 1) cells old new
      go None at p = past at p
      go (Some u) at p = put u at p

-- a site that was not come to yet has its old cell
pub waits_still : (c : Site) (k : ℕ) (cells : ℕ → CellValue) (old mid : CacheValue) → k < 41 → HoldsWindow old.map old.tile c → StoresFirst c k cells old mid → window_cells mid c k ≡ window_cells old c k
waits_still c k cells old mid lt holds v = ap (λ m. cell_for mid (window_site m c k)) v.map ∙ go (window_site old.map c k) refl
  where
    go : (o : Option Site) → window_site old.map c k ≡ o → cell_for mid o ≡ cell_for old o
    go None at = refl
    go (Some u) at = v.rest u (holds k u lt at) (λ n less is. let e = sites_apart old.map c u n k (omega (arith, less, lt)) lt is at in omega (arith, e, less))

pub stores_all : (c : Site) (cells : ℕ → CellValue) (old new : CacheValue) → StoresFirst c 41 cells old new → Stores c cells old new
stores_all c cells old new v = record {
  differs = record { map = v.map; tile = v.tile; others = λ s h out. v.rest s h (λ n lt at. true≢false (sym (window_site-near old.map c s n (omega (arith, lt)) at) ∙ out)) };
  done = v.done;
}

-- the owner of a live centre holds the window
pub centre_holds : (m : MapValue) → IsPlane m → (t : ℕ) (c : Site) → IsCentre m t c → HoldsWindow m t c
centre_holds m p t c q n s lt at = subst (λ u. is_held m u s ≡ true) q.owned (p.owners.window c s q.live (window_site-near m c s n (omega (arith, lt)) at))

-- the owner of a live centre holds it
pub centre_held : (m : MapValue) → IsPlane m → (t : ℕ) (c : Site) → IsCentre m t c → is_held m t c ≡ true
centre_held m p t c q = subst (λ u. is_held m u c ≡ true) q.owned (p.owners.holder c q.live)

-- the columns and rows of a centre
pub centre_column : (m : MapValue) (t : ℕ) (c : Site) → IsCentre m t c → c.x < m.tx * m.w
centre_column m t c q = ltb-true c.x (m.tx * m.w) (both _ _ (live_plane m c q.live)).0

pub centre_row : (m : MapValue) (t : ℕ) (c : Site) → IsCentre m t c → c.y < m.ty * m.h
centre_row m t c q = ltb-true c.y (m.ty * m.h) (both _ _ (live_plane m c q.live)).1

-- the cells of the rectangle at the start
pub first_copy : (m : MapValue) (t : ℕ) (g : GridValue) (cells : List CellValue) → IsFirstRectangle g (patch (left_of m t) (top_of m t) (columns_of m t) (rows_of m t)) cells → IsFirstCopy m t g (cache_of m t cells)
first_copy m t g cells r = record {
  map = refl;
  tile = refl;
  cells = λ s h.
      let p = held_span m t s.x s.y h in
      let low : s.x - left_of m t < columns_of m t = omega (arith, p.1, p.2) in
      let x : left_of m t + place_held m t s % columns_of m t ≡ s.x = ap (λ n. left_of m t + n) (mod-mul-add (s.y - top_of m t) (columns_of m t) (s.x - left_of m t) low) ∙ omega (arith, p.1) in
      let y : top_of m t + place_held m t s / columns_of m t ≡ s.y = ap (λ n. top_of m t + n) (div-mul-add (s.y - top_of m t) (columns_of m t) (s.x - left_of m t) low) ∙ omega (arith, p.3) in
      r.each (place_held m t s) (place_inside m t s h) ∙ (λ i. cell_value 0 (site_atom g (x i) (y i)));
}

-- the first cells are the atoms with stamp 0
first_cells : (g : GridValue) (p : Patch) (atoms : List AtomValue) (n : ℕ) → n ≡ p.width * p.height → AreAtomsIn g p atoms → IsFirstRectangle g p (paired_cells (replicate n 0) atoms)
first_cells g p atoms n is a =
    let even : length (replicate n 0) ≡ length atoms = length-replicate n 0 ∙ (is ∙ sym a.count) in
    record {
      count = length-cells (replicate n 0) atoms even ∙ a.count;
      each = λ k lt. cell_in_both (replicate n 0) atoms k even ∙ (λ i. cell_value (get_or-replicate n k 0 0 (omega (arith, lt, is)) i) (a.each k lt i));
    }

pub first_made : (g : GridValue) (p : Patch) (stamps : List ℕ) (atoms : List AtomValue) (cells : List CellValue) → AreAtomsIn g p atoms → stamps ≡ replicate (p.width * p.height) 0 → cells ≡ paired_cells stamps atoms → IsFirstRectangle g p cells
first_made g p stamps atoms cells a zeros is = subst (IsFirstRectangle g p) (sym (is ∙ ap (λ s. paired_cells s atoms) zeros)) (first_cells g p atoms (p.width * p.height) refl a)

-- a needed edge is one of the tile's, and the board has it
pub has_get : (es : List ℕ) (k d : ℕ) → k < length es → has (get_or es k d) es ≡ true
has_get [] k d lt = absurd (omega (arith, lt))
has_get (e ∷ es) zero d lt = let q : eqb e e ≡ true = grind arith in ap (λ b. cond b true (has e es)) q
has_get (e ∷ es) (suc k) d lt = go (eqb (get_or es k d) e) (has_get es k d (omega (arith, lt)))
  where
    go : (b : Bool) → has (get_or es k d) es ≡ true → cond b true (has (get_or es k d) es) ≡ true
    go true h = refl
    go false h = h

pub joined_end : (m : MapValue) (e t u : ℕ) → Joins m e t u → has_end m t e ≡ true
joined_end m e t u j = ⊎_elim
    (λ (p : (low_end m e ≡ t) × (high_end m e ≡ u)). let q = p.0 in grind (arith, nat_tests, q))
    (λ (p : (low_end m e ≡ u) × (high_end m e ≡ t)). let q = p.1 in grind (arith, nat_tests, q))
    j

module _ (m : MapValue) (plane : IsPlane m) (t : ℕ) (c : Site) (end : EndValue) (board : IsEndOf m t end) (needs : List ℕ) (is : needs ≡ needs_of m t c) (held : (e : ℕ) → has e needs ≡ true → IsHeld (end.lists e)) where
  pub needs_ready : All (IsEdgeFor m end.registers end.lists) needs
  needs_ready k d lt =
      let e = get_or needs k d in
      let one : slice_index_or needs k e ≡ e = get_or_default needs k e d lt in
      let cause = plane.needs.cause t c e (k, (subst (λ es. k < length es) is lt), ap (λ es. slice_index_or es k e) (sym is) ∙ one) in
      record {
        known = cause.2;
        registers_on = board.registers_are e (joined_end m e t cause.0 cause.3);
        held = held e (has_get needs k d lt);
      }

  pub needs_rising : IsStrictlyIncreasing needs
  needs_rising = subst IsStrictlyIncreasing (sym is) (plane.needs.rising t c)

-- an end that stays is that of the same tile of the plane
pub end_stays : (m : MapValue) (t u : ℕ) (a b : EndValue) → u ≡ t → SameEnd a b → IsEndOf m t a → IsEndOf m u b
end_stays m t u a b number same end = record {
  tile_is = same.0 ∙ (end.tile_is ∙ sym number);
  registers_are = λ e h. ap (λ f. f e) same.1 ∙ end.registers_are e (subst (λ n. has_end m n e ≡ true) number h);
  end_is = λ e h. ap (λ f. f e) same.2 ∙ (end.end_is e (subst (λ n. has_end m n e ≡ true) number h) ∙ ap (λ n. end_at m n e) (sym number));
}

-- only the cells of the 41 sites matter
pub stores_by : (c : Site) (p q : ℕ → CellValue) (old new : CacheValue) → ((n : ℕ) → n < 41 → p n ≡ q n) → Stores c p old new → Stores c q old new
stores_by c p q old new same s = record { differs = s.differs; done = λ n u lt at. s.done n u lt at ∙ same n lt }

-- a copy that stays has its own cells
pub stores_same : (c : Site) (v : CacheValue) (cells : ℕ → CellValue) → ((n : ℕ) → n < 41 → cells n ≡ window_cells v c n) → Stores c cells v v
stores_same c v cells own = record {
  differs = record { map = refl; tile = refl; others = λ s h out. refl };
  done = λ n s lt at. sym (own n lt ∙ ap (cell_for v) at);
}

-- where no edge is needed, nothing is news
pub refreshed_none : (c : Site) (v : CacheValue) (a : ℕ → EndLists) → Refreshed c [] (copy_at v a) (copy_at v a)
refreshed_none c v a = record {
  more = λ e. [];
  adds = adds_all_begins a;
  reads = λ e h. absurd (true≢false (sym h));
  stores = stores_same c v (λ n. newest (window_cells v c n) []) (λ n lt. refl);
}
