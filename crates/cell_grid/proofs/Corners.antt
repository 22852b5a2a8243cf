-- A window of which all sites are in the plane and live.
use Rattle.std.proofs.Common.{ℕ, suc, ◌≡◌, ◌+◌, ◌-◌, ◌*◌, ◌≤◌, ◌<◌, Bool, true, false, zero, List, [], ◌∷◌, length, get_or, is_some, replicate, subst, Some, refl, ap, sym, ◌∙◌, arith, inl, inr}
use Rattle.std.specs.Prelude.{ℤ, pos, negsuc}
use Rattle.std.specs.List.{range_with_len}
use Rattle.std.specs.Int.RustNames.{unsigned_abs}
use Rattle.std.proofs.Math.ListN.{length-set}
use Rattle.std.proofs.Math.Nat.{add-mul, mul_comm}
use Rattle.std.proofs.lemmas.Bool.{lt-ltb}
use Rattle.std.proofs.lemmas.Bool.Decides.{eqb_tells}
use Rattle.std.proofs.lemmas.List.{get_or-set_other, get_or-set_same, get_or-replicate, length-replicate}
use Rattle.std.proofs.lemmas.List.FromFn.{fill_by_all, get_or-map-range_with_len, length-map-range_with_len}
use Rattle.bit_field.specs.Atom.{AtomValue, empty_atom}
use Rattle.window_sites.specs.Sites.{offset_of, shift}
use Rattle.window_sites.specs.Window.{WindowValue, atom_at}
use Rattle.window_sites.proofs.Offsets.{offset-near}
use Rattle.cell_grid.specs.Grid.{GridValue, IsGrid, place_of, atom_at_place, window_of, sites_at, atom_left, put_window}
use Rattle.cell_grid.proofs.Windows.{IsGrid-put}
use Rattle.cell_grid.specs.Calm.{AreCalm, IsCalm, IsCorner}
use Rattle.window_sites.specs.Inner.{inner_place, inner_atoms, inner_window, from_low, site_numbers}
use Rattle.cell_grid.specs.Inner.{with_inner, with_sites, with_sites_put}

shift-near : (x w : ℕ) (d : ℤ) → unsigned_abs d ≤ 4 → 4 ≤ x → x + 4 < w → (shift x d ≡ Some (x - 4 + from_low d)) × (x - 4 + from_low d < w) × (x - 4 + from_low d ≤ x + 4) × (x ≤ x - 4 + from_low d + 4)
shift-near x w (pos d) h a b = (ap Some (omega (arith, a)), omega (arith, h, a, b), omega (arith, h, a), omega (arith, h, a))
shift-near x w (negsuc d) h a b = (rw (lt-ltb d x (omega (arith, h, a))) (ap Some (omega (arith, h, a))), omega (arith, h, a, b), omega (arith, h, a), omega (arith, h, a))

pub from-corner : (a b w p c : ℕ) → (a + b) * w + (p + c) ≡ a * w + p + b * w + c
from-corner a b w p c = let r = add-mul a b w in omega (arith, r)

pub place-inner : (g : GridValue) (calm : List Bool) (x y n : ℕ) → n ≤ 40 → AreCalm g.width g.height g.live calm → 4 ≤ x → x + 4 < g.width → 4 ≤ y → y + 4 < g.height →
    get_or calm (y * g.width + x) false ≡ true → place_of g x y n ≡ Some (inner_place ((y - 4) * g.width + (x - 4)) g.width n)
place-inner g calm x y n h k a b c d m =
    let o = offset-near n h in
    let dx = (offset_of n).0 in
    let dy = (offset_of n).1 in
    let sx = shift-near x g.width dx (omega (arith, o)) a b in
    let sy = shift-near y g.height dy (omega (arith, o)) c d in
    let l = k.near x y (x - 4 + from_low dx) (y - 4 + from_low dy) (omega (arith, b)) (omega (arith, d)) sx.1 sy.1 sx.2 sx.3 sy.2 sy.3 m in
    rw (sx.0, sy.0, lt-ltb _ _ sx.1, lt-ltb _ _ sy.1, l) (ap Some (from-corner (y - 4) (from_low dy) g.width (x - 4) (from_low dx)))

pub corner-below : (a h w p : ℕ) → a + 9 ≤ h → p + 9 ≤ w → a * w + p + 8 * w + 8 < h * w
corner-below a h w p e f = let r = add-mul (a + 9) (h - (a + 9)) w in let s = add-mul a 9 w in let t : a + 9 + (h - (a + 9)) ≡ h = omega (arith, e) in let u = rw t at r in omega (arith, u, s, f)

pub corner-is : (g : GridValue) (calm : List Bool) (x y : ℕ) → IsGrid g → AreCalm g.width g.height g.live calm → 4 ≤ x → x + 4 < g.width → 4 ≤ y → y + 4 < g.height →
    get_or calm (y * g.width + x) false ≡ true → IsCorner g x y ((y - 4) * g.width + (x - 4))
corner-is g calm x y i k a b c d m = record {
  fits = let r = corner-below (y - 4) g.height g.width (x - 4) (omega (arith, c, d)) (omega (arith, a, b)) in let t = mul_comm g.height g.width in omega (arith, r, t, i.whole);
  place = λ n h. place-inner g calm x y n h k a b c d m;
}

-- a site without a mark has a site near that is not live
pub not-calm : (g : GridValue) (calm : List Bool) (x y : ℕ) → AreCalm g.width g.height g.live calm → x < g.width → y < g.height → get_or calm (y * g.width + x) false ≡ false → IsCalm g x y → ⊥
not-calm g calm x y k x_in y_in mark is =
    let d = k.unmarked x y x_in y_in mark in
    cc (d.dead, is.live d.u d.v d.columns.0 d.columns.1 d.rows.0 d.rows.1)

-- the window that is read there
pub window_of-inner : (g : GridValue) (x y low : ℕ) → IsCorner g x y low → inner_window g.atoms low g.width ≡ window_of g x y
unfolding window_of inner_atoms
window_of-inner g x y low h =
    let a = fill_by_all (λ n. atom_at_place g (place_of g x y n)) (inner_atoms g.atoms low g.width) 41 empty_atom (length-map-range_with_len {X = AtomValue} (λ n. get_or g.atoms (inner_place low g.width n) empty_atom) 0 41)
    (λ k lt. get_or-map-range_with_len (λ n. get_or g.atoms (inner_place low g.width n) empty_atom) 0 41 k k empty_atom lt (omega arith) ∙ sym (ap (atom_at_place g) (h.place k (omega (arith, lt))))) in
    let b = fill_by_all (λ n. is_some (place_of g x y n)) (replicate 41 true) 41 false (length-replicate 41 true)
    (λ k lt. get_or-replicate 41 k true false lt ∙ sym (ap is_some (h.place k (omega (arith, lt))))) in
    rw (a, b) refl

pub length-with_sites : (atoms : List AtomValue) (low width : ℕ) (from : List AtomValue) (ns : List ℕ) → length (with_sites atoms low width from ns) ≡ length atoms
length-with_sites atoms low width from [] = refl
length-with_sites atoms low width from (n ∷ ns) = length-set (with_sites atoms low width from ns) (inner_place low width n) (get_or from n empty_atom) ∙ length-with_sites atoms low width from ns

atom_left-inner : (g : GridValue) (x y low : ℕ) (w : WindowValue) (a k : ℕ) → IsCorner g x y low → a + k ≤ 41 → (i : ℕ) → i < length g.atoms →
    get_or (with_sites g.atoms low g.width w.atoms (range_with_len a k)) i empty_atom ≡ atom_left g w i (sites_at g x y i (range_with_len a k))
atom_left-inner g x y low w a zero h le i lt = refl
atom_left-inner g x y low w a (suc k) h le i lt =
    let rest = atom_left-inner g x y low w (a + 1) k h (omega (arith, le)) i lt in
    let old = with_sites g.atoms low g.width w.atoms (range_with_len (a + 1) k) in
    let j = inner_place low g.width a in
    let is = h.place a (omega (arith, le)) in
    let long = length-with_sites g.atoms low g.width w.atoms (range_with_len (a + 1) k) in
    elim (eqb_tells j i) [
      | inl same ↦ rw (is, same.0, same.1) (get_or-set_same old i (atom_at w a) empty_atom (omega (arith, lt, long)))
      | inr other ↦ rw (is, other.0) (get_or-set_other old j i (atom_at w a) empty_atom (λ e. other.1 (sym e)) ∙ rest)
    ]

-- the grid that is written there
pub put_window-inner : (g : GridValue) (x y low : ℕ) (w : WindowValue) → IsCorner g x y low → record g { atoms = with_inner g.atoms low g.width w.atoms } ≡ put_window g x y w
unfolding put_window with_inner
put_window-inner g x y low w h =
    ap (λ (v : List AtomValue). record g { atoms = v })
    (fill_by_all (λ i. atom_left g w i (sites_at g x y i site_numbers)) (with_inner g.atoms low g.width w.atoms) (length g.atoms) empty_atom
    (length-with_sites g.atoms low g.width w.atoms site_numbers) (λ i lt. atom_left-inner g x y low w 0 41 h (omega arith) i lt))

pub IsGrid-inner : (g : GridValue) (x y low : ℕ) (w : WindowValue) → IsGrid g → IsCorner g x y low → IsGrid (record g { atoms = with_inner g.atoms low g.width w.atoms })
IsGrid-inner g x y low w h k = subst IsGrid (sym (put_window-inner g x y low w k)) (IsGrid-put g x y w h)

pub length-with_inner : (atoms : List AtomValue) (low width : ℕ) (from : List AtomValue) → length (with_inner atoms low width from) ≡ length atoms
unfolding with_inner
length-with_inner atoms low width from = length-with_sites atoms low width from site_numbers

pub length-with_sites_put : (atoms : List AtomValue) (low width : ℕ) (from : List AtomValue) (first count : ℕ) → length (with_sites_put atoms low width from first count) ≡ length atoms
unfolding with_sites_put
length-with_sites_put atoms low width from first count = length-with_sites atoms low width from (range_with_len first count)
