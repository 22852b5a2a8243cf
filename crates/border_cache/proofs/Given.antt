-- Whole windows that are given back to a list of cells, and to a tile's copy.
use Rattle.std.proofs.Common.{◌≡◌, ℕ, zero, suc, ◌+◌, ◌*◌, ◌<◌, ◌≤◌, true, false, true≢false, List, length, get_or, replicate, refl, sym, ap, ◌∙◌, arith, ⊎_elim, Some}
use Rattle.std.specs.Prelude.{is_some, slice_index_or}
use Rattle.std.specs.List.{range_with_len}
use Rattle.std.proofs.lemmas.List.{get_or-set_same, get_or-set_other, get_or-replicate, length-replicate, get_or-map}
use Rattle.std.proofs.lemmas.List.FromFn.{get_or-map-range_with_len}
use Rattle.list_laws.proofs.Numbers.{same_or_more}
use Rattle.bit_field.specs.Atom.{AtomValue, empty_atom}
use Rattle.window_sites.specs.Inner.{inner_place, inner_atoms, inner_window}
use Rattle.window_sites.specs.Window.{WindowValue, atom_at}
use Rattle.window_sites.proofs.Filled.{length-inner_atoms}
use Rattle.cell_grid.specs.Inner.{with_sites, with_inner}
use Rattle.cell_grid.proofs.Corners.{length-with_sites, length-with_inner}
use Rattle.tile_map.specs.Plane.{Site}
use Rattle.tile_map.proofs.Near.{window_site-near}
use Rattle.border_cache.specs.Cells.{CellValue, cell_value, paired_cells, cell_atoms}
use Rattle.border_cache.specs.News.{no_cell}
use Rattle.border_cache.specs.Windows.{IsView}
use Rattle.border_cache.specs.Rows.{IsOutside, GivesWhole, AreStamped, stamped_at}
use Rattle.border_cache.specs.Copies.{CacheValue, cache_of, columns_of, place_held, cell_for, window_cells, HoldsWindow, Stores, Stamped, IsCorner}
use Rattle.border_cache.proofs.Planes.{length-cells, cell_in_both}
use Rattle.border_cache.proofs.InnerPlaces.{inner_inside, inner_apart}
use Rattle.border_cache.proofs.Stored.{place_one, stores_by}

module _ (atoms : List AtomValue) (low width : ℕ) (from : List AtomValue) (wide : 9 ≤ width) (fits : low + 8 * width + 8 < length atoms) where
  given : (a k n : ℕ) → a + k ≤ 41 → a ≤ n → n < a + k → get_or (with_sites atoms low width from (range_with_len a k)) (inner_place low width n) empty_atom ≡ get_or from n empty_atom
  given a zero n le lo hi = absurd (omega (arith, lo, hi))
  given a (suc k) n le lo hi =
      let old = with_sites atoms low width from (range_with_len (a + 1) k) in
      ⊎_elim
      (λ (same : n ≡ a).
      ap (λ j. get_or (with_sites atoms low width from (range_with_len a (suc k))) (inner_place low width j) empty_atom) same
      ∙ (get_or-set_same old (inner_place low width a) (get_or from a empty_atom) empty_atom (let l = length-with_sites atoms low width from (range_with_len (a + 1) k) in let i = inner_inside low width a (length atoms) (omega (arith, le)) fits in omega (arith, l, i))
      ∙ ap (λ j. get_or from j empty_atom) (sym same)))
      (λ (more : a + 1 ≤ n).
      get_or-set_other old (inner_place low width a) (inner_place low width n) (get_or from a empty_atom) empty_atom (λ same. let e = inner_apart low width n a wide (omega (arith, le, hi)) (omega (arith, le)) same in omega (arith, e, more))
      ∙ given (a + 1) k n (omega (arith, le)) more (omega (arith, hi)))
      (same_or_more a n lo)

  left : (a k p : ℕ) → a + k ≤ 41 → IsOutside low width p → get_or (with_sites atoms low width from (range_with_len a k)) p empty_atom ≡ get_or atoms p empty_atom
  left a zero p le out = refl
  left a (suc k) p le out =
      get_or-set_other (with_sites atoms low width from (range_with_len (a + 1) k)) (inner_place low width a) p (get_or from a empty_atom) empty_atom (λ same. out a (omega (arith, le)) (sym same))
      ∙ left (a + 1) k p (omega (arith, le)) out

  -- the atoms of a window that was given back
  pub given_at : (n : ℕ) → n < 41 → get_or (with_inner atoms low width from) (inner_place low width n) empty_atom ≡ get_or from n empty_atom
  unfolding with_inner
  given_at n lt = given 0 41 n (omega arith) (omega arith) (omega (arith, lt))

  pub left_at : (p : ℕ) → IsOutside low width p → get_or (with_inner atoms low width from) p empty_atom ≡ get_or atoms p empty_atom
  unfolding with_inner
  left_at p out = left 0 41 p (omega arith) out

-- the cells after both planes of a whole window were written
pub marked_whole : (low width stamp : ℕ) (w : WindowValue) (stamps now : List ℕ) (atoms : List AtomValue) → 9 ≤ width → low + 8 * width + 8 < length atoms → length stamps ≡ length atoms → length now ≡ length stamps
    → AreStamped low width stamp stamps now → GivesWhole low width (λ n. cell_value stamp (atom_at w n)) (paired_cells stamps atoms) (paired_cells now (with_inner atoms low width w.atoms))
marked_whole low width stamp w stamps now atoms wide fits even size s =
    let long = length-with_inner atoms low width w.atoms in
    let same : length now ≡ length (with_inner atoms low width w.atoms) = omega (arith, long, even, size) in
    record {
      count = length-cells now (with_inner atoms low width w.atoms) same ∙ (long ∙ sym (length-cells stamps atoms even));
      done = λ n lt. cell_in_both now (with_inner atoms low width w.atoms) (inner_place low width n) same ∙ (λ i. cell_value (s.done n lt i) (given_at atoms low width w.atoms wide fits n lt i));
      others = λ k out. cell_in_both now (with_inner atoms low width w.atoms) k same ∙ ((λ i. cell_value (s.others k out i) (left_at atoms low width w.atoms wide fits k out i)) ∙ sym (cell_in_both stamps atoms k even));
    }

-- the cells after the stamps alone were written
pub stamped_whole : (low width stamp : ℕ) (stamps now : List ℕ) (atoms : List AtomValue) → length stamps ≡ length atoms → length now ≡ length stamps → AreStamped low width stamp stamps now
    → GivesWhole low width (stamped_at (paired_cells stamps atoms) low width stamp) (paired_cells stamps atoms) (paired_cells now atoms)
stamped_whole low width stamp stamps now atoms even size s =
    let same : length now ≡ length atoms = omega (arith, even, size) in
    record {
      count = length-cells now atoms same ∙ sym (length-cells stamps atoms even);
      done = λ n lt. cell_in_both now atoms (inner_place low width n) same ∙ (λ i. cell_value (s.done n lt i) (sym (ap (λ cell. cell.atom) (cell_in_both stamps atoms (inner_place low width n) even)) i));
      others = λ k out. cell_in_both now atoms k same ∙ ((λ i. cell_value (s.others k out i) (get_or atoms k empty_atom)) ∙ sym (cell_in_both stamps atoms k even));
    }

-- a site of a window that is whole in a copy
module _ (v : CacheValue) (c : Site) (low : ℕ) (h : IsCorner v c low) where
  abbrev width : ℕ
  width = columns_of v.map v.tile

  cell_kept : (n : ℕ) → n < 41 → window_cells v c n ≡ slice_index_or v.cells (inner_place low width n) no_cell
  cell_kept n lt = let k = h.kept n lt in ap (cell_for v) k.1 ∙ ap (λ p. slice_index_or v.cells p no_cell) k.2

  -- what is given to the places of the window is stored at its sites
  pub gives_stores : (cells : ℕ → CellValue) (new : List CellValue) → HoldsWindow v.map v.tile c → GivesWhole low width cells v.cells new → Stores c cells v (cache_of v.map v.tile new)
  gives_stores cells new holds g = record {
    differs = record {
      map = refl;
      tile = refl;
      others = λ s held out. g.others (place_held v.map v.tile s) (λ n lt same.
          let k = h.kept n lt in
          let one : k.0 ≡ s = place_one v.map v.tile k.0 s (holds n k.0 lt k.1) held (k.2 ∙ same) in
          true≢false (sym (window_site-near v.map c s n (omega (arith, lt)) (k.1 ∙ ap Some one)) ∙ out));
    };
    done = λ n s lt at.
        let k = h.kept n lt in
        let one : s ≡ k.0 = cc (sym at ∙ k.1) in
        ap (λ p. slice_index_or new p no_cell) (ap (place_held v.map v.tile) one ∙ k.2) ∙ g.done n lt;
  }

  pub gives_stamped : (stamp : ℕ) (new : List CellValue) → HoldsWindow v.map v.tile c → GivesWhole low width (stamped_at v.cells low width stamp) v.cells new → Stamped c stamp v (cache_of v.map v.tile new)
  gives_stamped stamp new holds g =
      stores_by c (stamped_at v.cells low width stamp) (λ n. cell_value stamp (window_cells v c n).atom) v (cache_of v.map v.tile new)
      (λ n lt. ap (λ cell. cell_value stamp cell.atom) (sym (cell_kept n lt))) (gives_stores (stamped_at v.cells low width stamp) new holds g)

  atom_kept : (n : ℕ) → n < 41 → get_or (inner_atoms (cell_atoms v.cells) low width) n empty_atom ≡ (window_cells v c n).atom
  unfolding inner_atoms
  atom_kept n lt =
      get_or-map-range_with_len (λ n. slice_index_or (cell_atoms v.cells) (inner_place low width n) empty_atom) 0 41 n n empty_atom lt (omega arith)
      ∙ (get_or-map (λ cell. cell.atom) v.cells (inner_place low width n) no_cell empty_atom (inner_inside low width n (length v.cells) lt h.fits)
      ∙ sym (ap (λ cell. cell.atom) (cell_kept n lt)))

  live_kept : (n : ℕ) → n < 41 → get_or (replicate 41 true) n false ≡ true
  live_kept n lt = get_or-replicate 41 n true false lt

  -- the window that is read there
  pub view_whole : IsView v.map c (window_cells v c) (inner_window (cell_atoms v.cells) low width)
  view_whole = record {
    valid = record {
      atoms = length-inner_atoms (cell_atoms v.cells) low width;
      live = length-replicate 41 true;
      hidden = λ n lt off. absurd (true≢false (sym (live_kept n lt) ∙ off));
      centre = live_kept 0 (omega arith);
    };
    live = λ n lt. live_kept n lt ∙ sym (ap is_some (h.kept n lt).1);
    atoms = λ n lt on. atom_kept n lt;
  }
