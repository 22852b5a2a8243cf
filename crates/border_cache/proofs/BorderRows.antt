-- Rows of what a tile reaches that are stamped one by one.
use Rattle.std.proofs.Common.{◌≡◌, ℕ, ◌+◌, ◌-◌, ◌*◌, ◌/◌, ◌%◌, ◌<◌, ◌≤◌, inl, inr, ⊎_elim, true, true≢false, List, length, refl, sym, ap, ◌∙◌, subst, arith, Some}
use Rattle.std.specs.Prelude.{slice_index_or}
use Rattle.list_laws.proofs.Numbers.{less_or_same}
use Rattle.list_laws.proofs.Tests.{together}
use Rattle.bit_field.specs.Atom.{AtomValue, empty_atom}
use Rattle.tile_map.specs.Plane.{Site, MapValue, IsMap, site, tiles_of, is_whole, is_live, is_held, in_window}
use Rattle.tile_map.specs.Spans.{low, high, left_of, right_of, top_of, bottom_of}
use Rattle.tile_map.specs.Tables.{reach_of, sites_in}
use Rattle.tile_map.specs.Edges.{window_site}
use Rattle.tile_map.proofs.Spans.{times_more, le_test, held_span, held_parts, held_whole, reached_inside, plane_test}
use Rattle.tile_map.proofs.Near.{window_site-near, window_apart}
use Rattle.tile_map.proofs.Numbers.{size_low}
use Rattle.tile_map.proofs.PlaneLaws.{whole_on}
use Rattle.tile_map.proofs.Blocks.{block_length}
use Rattle.tile_map.proofs.Sharing.{column_low, row_low}
use Rattle.border_cache.specs.declared.row_runs.Run.{Run}
use Rattle.border_cache.specs.Cells.{CellValue, cell_value, paired_cells}
use Rattle.border_cache.specs.News.{no_cell}
use Rattle.border_cache.specs.Rows.{StampsRun, StampsCells}
use Rattle.border_cache.specs.Windows.{IsNear, IsRunOf}
use Rattle.border_cache.specs.Copies.{CacheValue, cache_of, columns_of, rows_of, place_held, held_cell, cell_for, HoldsWindow, Stamped}
use Rattle.border_cache.specs.BorderRows.{reach, kept_at, StampsRow, StampsRows}
use Rattle.border_cache.proofs.Planes.{length-cells, cell_in_both}
use Rattle.border_cache.proofs.InnerPlaces.{in_or_out}
use Rattle.border_cache.proofs.RowPlaces.{run_near, run_fits}
use Rattle.border_cache.proofs.Stored.{place_one}

-- stamps and atoms together
pub stamped_cells : (first count stamp : ℕ) (stamps now : List ℕ) (atoms : List AtomValue) → length stamps ≡ length atoms → length now ≡ length stamps → StampsRun first count stamp stamps now →
    StampsCells first count stamp (paired_cells stamps atoms) (paired_cells now atoms)
stamped_cells first count stamp stamps now atoms even size s = record {
  count_is = length-cells now atoms (size ∙ even) ∙ sym (length-cells stamps atoms even);
  done = λ k from to. cell_in_both now atoms k (size ∙ even) ∙ (λ i. cell_value (s.done k from to i) (sym (ap (λ (cell : CellValue). cell.atom) (cell_in_both stamps atoms k even)) i));
  others = λ k out. cell_in_both now atoms k (size ∙ even) ∙ (λ i. cell_value (s.others k out i) (slice_index_or atoms k empty_atom)) ∙ sym (cell_in_both stamps atoms k even);
}

-- what a tile reaches, by where it begins and how large it is
part_ends : (n size a : ℕ) → 8 ≤ size → size ≤ 64 → n ≤ 8 → a < n → (low size a ≤ high (n * size) size a) × (high (n * size) size a ≤ 512)
part_ends n size a big small few lt =
    let more = times_more (a + 1) n size (omega (arith, lt)) in
    let most = size_low n size few small in
    (omega (arith, more, big), omega (arith, most))

pub record ReachEnds (m : MapValue) (t : ℕ) : Type 0 where
  pub columns : left_of m t + columns_of m t ≡ right_of m t
  pub rows : top_of m t + rows_of m t ≡ bottom_of m t
  pub right : right_of m t ≤ 512
  pub bottom : bottom_of m t ≤ 512

pub reach_ends : (m : MapValue) (t : ℕ) → IsMap m → t < tiles_of m → ReachEnds m t
reach_ends m t k lt =
    let x = part_ends m.tx m.w (t % m.tx) k.sizes.w_low k.sizes.w_high k.sizes.tx_high (column_low m k t lt) in
    let y = part_ends m.ty m.h (t / m.tx) k.sizes.h_low k.sizes.h_high k.sizes.ty_high (row_low m k t lt) in
    record { columns = omega (arith, x.0); rows = omega (arith, y.0); right = x.1; bottom = y.1 }

-- a run lies within the cells
reach_sites : (v : CacheValue) → length (sites_in (reach v)) ≡ columns_of v.map v.tile * rows_of v.map v.tile
reach_sites v = omega (arith, block_length (left_of v.map v.tile) (columns_of v.map v.tile) (top_of v.map v.tile) (rows_of v.map v.tile))

pub run_inside : (v : CacheValue) (c : Site) (j : ℕ) (r : Run) → IsRunOf (reach v) c j r → length v.cells ≡ columns_of v.map v.tile * rows_of v.map v.tile → r.start + (r.east - r.west) ≤ length v.cells
run_inside v c j r is count = omega (arith, run_fits (reach v) c j r is, reach_sites v, count)

-- a row of which the tile reaches no site
pub row_past : (c : Site) (j stamp : ℕ) (v : CacheValue) → ((k u w : ℕ) → IsNear (reach v) c k u w → w + 4 ≡ c.y + j → ⊥) → StampsRow c j stamp v v
row_past c j stamp v none = record {
  map = refl;
  tile = refl;
  count = refl;
  done = λ k u w n e. absurd (none k u w n e);
  kept = λ k h. h;
  atoms = λ k. refl;
  others = λ k. inl refl;
}

-- a row whose run was stamped
pub row_run : (c : Site) (j stamp : ℕ) (v : CacheValue) (r : Run) (cells : List CellValue) → IsRunOf (reach v) c j r → StampsCells r.start (r.east - r.west) stamp v.cells cells → StampsRow c j stamp v (cache_of v.map v.tile cells)
row_run c j stamp v r cells is s = record {
  map = refl;
  tile = refl;
  count = s.count_is;
  done = λ k u w n e. let p = is.all k u w n e in ap (λ (cell : CellValue). cell.stamp) (s.done k (omega (arith, p.2)) (omega (arith, p.0, p.1, p.2)));
  kept = λ k h. ⊎_elim (λ p. ap (λ (cell : CellValue). cell.stamp) (s.done k p.0 p.1)) (λ out. ap (λ (cell : CellValue). cell.stamp) (s.others k out) ∙ h) (in_or_out r.start (r.east - r.west) k);
  atoms = λ k. ⊎_elim (λ p. ap (λ (cell : CellValue). cell.atom) (s.done k p.0 p.1)) (λ out. ap (λ (cell : CellValue). cell.atom) (s.others k out)) (in_or_out r.start (r.east - r.west) k);
  others = λ k. ⊎_elim (λ p. inr (k - r.start + r.west, r.row, run_near (reach v) c j r is k p.0 p.1)) (λ out. inl (s.others k out)) (in_or_out r.start (r.east - r.west) k);
}

pub rows_none : (c : Site) (stamp : ℕ) (v : CacheValue) → StampsRows c 0 stamp v v
rows_none c stamp v = record {
  map = refl;
  tile = refl;
  count = refl;
  done = λ k u w n lt. let close = n.close in absurd (omega (arith, lt, close));
  atoms = λ k. refl;
  others = λ k. inl refl;
}

-- one row more
pub rows_next : (c : Site) (j stamp : ℕ) (old mid new : CacheValue) → StampsRows c j stamp old mid → StampsRow c j stamp mid new → StampsRows c (j + 1) stamp old new
rows_next c j stamp old mid new r s = record {
  map = s.map ∙ r.map;
  tile = s.tile ∙ r.tile;
  count = s.count ∙ r.count;
  done = λ k u w n lt. ⊎_elim (λ before. s.kept k (r.done k u w n before)) (λ same. s.done k u w (subst (λ a. IsNear a c k u w) (sym here) n) same) (less_or_same (w + 4) (c.y + j) (omega (arith, lt)));
  atoms = λ k. s.atoms k ∙ r.atoms k;
  others = λ k. ⊎_elim
      (λ stays. ⊎_elim (λ before. inl (stays ∙ before)) inr (r.others k))
      (λ (p : (u : ℕ) × (w : ℕ) × IsNear (reach mid) c k u w). inr (p.0, p.1, subst (λ a. IsNear a c k p.0 p.1) here p.2))
      (s.others k);
}
  where
    here : reach mid ≡ reach old
    here = λ i. reach_of (r.map i) (r.tile i)

-- a site that the tile reaches is live and held where no tile is off
pub reached : (m : MapValue) (t : ℕ) (c : Site) (k u w : ℕ) → IsMap m → is_whole m ≡ true → IsNear (reach_of m t) c k u w → is_live m (site u w) ≡ true
reached m t c k u w valid whole n =
    let plane = plane_test m u w (omega (arith, n.east)) (omega (arith, n.south)) in
    together _ _ plane (whole_on m valid whole (site u w) plane)

-- a live site of a window is near, where the tile holds it
pub window_near : (m : MapValue) (t : ℕ) (c : Site) → HoldsWindow m t c → (n : ℕ) (s : Site) → n < 41 → window_site m c n ≡ Some s → IsNear (reach_of m t) c (place_held m t s) s.x s.y
window_near m t c holds n s lt at =
    let span = held_span m t s.x s.y (holds n s lt at) in
    record {
      west = span.1;
      east = span.2;
      north = span.3;
      south = span.4;
      place = refl;
      close = window_apart m c s (window_site-near m c s n (omega (arith, lt)) at);
    }

-- after nine rows
pub rows_stamped : (c : Site) (stamp : ℕ) (old new : CacheValue) → IsMap old.map → is_whole old.map ≡ true → HoldsWindow old.map old.tile c → StampsRows c 9 stamp old new → Stamped c stamp old new
rows_stamped c stamp old new valid whole holds r = record {
  differs = record {
    map = r.map;
    tile = r.tile;
    others = λ s h out. here s ∙ ⊎_elim (λ same. same) (λ (p : (u : ℕ) × (w : ℕ) × IsNear (reach old) c (place_held old.map old.tile s) u w). absurd (true≢false (sym (inside s h p.0 p.1 p.2) ∙ out))) (r.others (place_held old.map old.tile s));
  };
  done = λ n s lt at. here s ∙ (λ i. cell_value (r.done (place_held old.map old.tile s) s.x s.y (near n s lt at) (omega (arith, (near n s lt at).close)) i) ((r.atoms (place_held old.map old.tile s) ∙ ap (λ o. (cell_for old o).atom) (sym at)) i));
}
  where
    here : (s : Site) → held_cell new s ≡ kept_at new (place_held old.map old.tile s)
    here s = λ i. slice_index_or new.cells (place_held (r.map i) (r.tile i) s) no_cell

    near : (n : ℕ) (s : Site) → n < 41 → window_site old.map c n ≡ Some s → IsNear (reach old) c (place_held old.map old.tile s) s.x s.y
    near n s lt at = window_near old.map old.tile c holds n s lt at

    inside : (s : Site) → is_held old.map old.tile s ≡ true → (u w : ℕ) → IsNear (reach old) c (place_held old.map old.tile s) u w → in_window old.map c s ≡ true
    inside s h u w n =
        let m = old.map in
        let t = old.tile in
        let live = reached m t c (place_held m t s) u w valid whole n in
        let held : is_held m t (site u w) ≡ true = held_whole m t (site u w) (held_parts m t s h).on live (reached_inside m t u w n.west n.east n.north n.south) in
        let same : site u w ≡ s = place_one m t (site u w) s held h (sym n.place) in
        subst (λ q. in_window m c q ≡ true) same (together _ _ live (le_test _ _ n.close))
