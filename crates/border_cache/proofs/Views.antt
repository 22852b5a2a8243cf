-- The window that shows cells.
use Rattle.std.proofs.Common.{◌≡◌, ℕ, ◌+◌, ◌<◌, Bool, true, false, cond, List, length, refl, sym, ap, ◌∙◌, arith, ⊎_elim}
use Rattle.std.specs.Prelude.{slice_index_or, slice_set, is_some, Some, None, pos, if◌then◌else◌}
use Rattle.std.proofs.lemmas.List.{get_or-set_same, get_or-set_other}
use Rattle.list_laws.proofs.Numbers.{less_or_same}
use Rattle.bit_field.specs.Atom.{AtomValue, empty_atom}
use Rattle.window_sites.specs.Sites.{sites, offset_of, shift}
use Rattle.window_sites.specs.Window.{IsWindow}
use Rattle.tile_map.specs.Plane.{Site, MapValue, is_live}
use Rattle.tile_map.specs.Edges.{live_site, window_site}
use Rattle.border_cache.specs.Cells.{CellValue}
use Rattle.border_cache.specs.Windows.{is_shown, IsView}

at_centre : offset_of 0 ≡ (pos 0, pos 0)
unfolding sites
at_centre = refl

pub centre_site : (m : MapValue) (c : Site) → is_live m c ≡ true → window_site m c 0 ≡ Some c
centre_site m c live = ap (λ o. live_site m (shift c.x o.0) (shift c.y o.1)) at_centre
    ∙ (let x : c.x + 0 ≡ c.x = omega arith in let y : c.y + 0 ≡ c.y = omega arith in (λ z. live_site m (Some (x z)) (Some (y z))))
    ∙ ap (λ b. if b then Some c else None) live

pub centre_shown : (m : MapValue) (c : Site) → is_live m c ≡ true → is_shown m c 0 ≡ true
centre_shown m c live = ap is_some (centre_site m c live)

-- one more site of a list
pub one_more : {A : Type 0} (xs : List A) (d x : A) (f : ℕ → A) (n : ℕ) → n < length xs → x ≡ f n → ((j : ℕ) → j < n → slice_index_or xs j d ≡ f j) → (j : ℕ) → j < n + 1 → slice_index_or (slice_set xs n x) j d ≡ f j
one_more xs d x f n lt is old j less =
    ⊎_elim (λ (h : j < n). get_or-set_other xs n j x d (omega (arith, h)) ∙ old j h)
    (λ (e : j ≡ n). ap (λ i. slice_index_or (slice_set xs n x) i d) e ∙ (get_or-set_same xs n x d lt ∙ (is ∙ ap f (sym e))))
    (less_or_same j n less)

pub window_valid : (m : MapValue) (c : Site) (atoms : List AtomValue) (live : List Bool) (cells : ℕ → CellValue) → is_live m c ≡ true → length atoms ≡ 41 → length live ≡ 41
    → ((j : ℕ) → j < 41 → slice_index_or live j false ≡ is_shown m c j) → ((j : ℕ) → j < 41 → slice_index_or atoms j empty_atom ≡ cond (is_shown m c j) (cells j).atom empty_atom)
    → IsWindow (record { atoms = atoms; live = live })
window_valid m c atoms live cells is_live long wide marks shows = record {
  atoms = long;
  live = wide;
  hidden = λ n lt off. shows n lt ∙ ap (λ b. cond b (cells n).atom empty_atom) (sym (marks n lt) ∙ off);
  centre = marks 0 (omega arith) ∙ centre_shown m c is_live;
}

pub view_is : (m : MapValue) (c : Site) (atoms : List AtomValue) (live : List Bool) (cells : ℕ → CellValue) → is_live m c ≡ true → length atoms ≡ 41 → length live ≡ 41
    → ((j : ℕ) → j < 41 → slice_index_or live j false ≡ is_shown m c j) → ((j : ℕ) → j < 41 → slice_index_or atoms j empty_atom ≡ cond (is_shown m c j) (cells j).atom empty_atom)
    → IsView m c cells (record { atoms = atoms; live = live })
view_is m c atoms live cells is_live long wide marks shows = record {
  valid = window_valid m c atoms live cells is_live long wide marks shows;
  live = marks;
  atoms = λ n lt on. shows n lt ∙ ap (λ b. cond b (cells n).atom empty_atom) on;
}
