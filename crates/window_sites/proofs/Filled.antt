-- A window's atoms read into place, the last site first.
use Rattle.std.proofs.Common.{ℕ, suc, zero, ◌≡◌, ◌+◌, ◌≤◌, ◌<◌, List, [], ◌∷◌, length, get_or, refl, sym, ◌∙◌, arith, inl, inr}
use Rattle.std.specs.List.{range_with_len}
use Rattle.std.proofs.Math.ListN.{length-set}
use Rattle.std.proofs.lemmas.Bool.Decides.{eqb_tells}
use Rattle.std.proofs.lemmas.List.{get_or-set_other, get_or-set_same, get_or_read_under}
use Rattle.std.proofs.lemmas.List.FromFn.{fill_by_all, length-map-range_with_len}
use Rattle.bit_field.specs.Atom.{AtomValue, empty_atom}
use Rattle.window_sites.specs.Inner.{copy_sites, inner_place, inner_atoms, site_numbers, with_sites_read}

length-filled : (into plane : List AtomValue) (low width : ℕ) (ns : List ℕ) → length (copy_sites into plane low width ns) ≡ length into
length-filled into plane low width [] = refl
length-filled into plane low width (n ∷ ns) = length-set (copy_sites into plane low width ns) n (get_or plane (inner_place low width n) empty_atom) ∙ length-filled into plane low width ns

later : (a j : ℕ) → a ≤ j → (a ≡ j → ⊥) → a + 1 ≤ j
later a j from other = grind (arith, from, other)

below-41 : (n m a k j : ℕ) → n ≡ m → m ≡ 41 → a + suc k ≤ 41 → j < a + suc k → j < n
below-41 n m a k j e f g h = omega (arith, e, f, g, h)

filled-at : (into plane : List AtomValue) (low width a k : ℕ) → length into ≡ 41 → a + k ≤ 41 → (j : ℕ) → a ≤ j → j < a + k →
    get_or (copy_sites into plane low width (range_with_len a k)) j empty_atom ≡ get_or plane (inner_place low width j) empty_atom
filled-at into plane low width a zero long le j from to = absurd (omega (arith, from, to))
filled-at into plane low width a (suc k) long le j from to =
    let old = copy_sites into plane low width (range_with_len (a + 1) k) in
    elim (eqb_tells a j) [
      | inl same ↦ rw (same.1) (get_or-set_same (copy_sites into plane low width (range_with_len (j + 1) k)) j (get_or plane (inner_place low width j) empty_atom) empty_atom (below-41 _ _ a k j (length-filled into plane low width (range_with_len (j + 1) k)) long le to))
      | inr other ↦ get_or-set_other old a j (get_or plane (inner_place low width a) empty_atom) empty_atom (λ e. other.1 (sym e))
          ∙ filled-at into plane low width (a + 1) k long (omega (arith, le)) j (later a j from other.1) (omega (arith, to))
    ]

pub with_sites_read-all : (into plane : List AtomValue) (low width : ℕ) → length into ≡ 41 → with_sites_read into plane low width 0 41 ≡ inner_atoms plane low width
unfolding with_sites_read inner_atoms
with_sites_read-all into plane low width long =
    fill_by_all (λ n. get_or plane (inner_place low width n) empty_atom) (copy_sites into plane low width site_numbers) 41 empty_atom (length-filled into plane low width site_numbers ∙ long)
    (λ j lt. filled-at into plane low width 0 41 long (omega arith) j (omega arith) (omega (arith, lt)))

pub length-inner_atoms : (atoms : List AtomValue) (low width : ℕ) → length (inner_atoms atoms low width) ≡ 41
unfolding inner_atoms
length-inner_atoms atoms low width = length-map-range_with_len {X = AtomValue} (λ n. get_or atoms (inner_place low width n) empty_atom) 0 41

-- what a read gives, whatever stands past the end
pub read_at : (xs : List AtomValue) (i : ℕ) (x : AtomValue) → x ≡ get_or xs i x → i < length xs → x ≡ get_or xs i empty_atom
read_at xs i x e h = get_or_read_under xs i (length xs) x empty_atom e h refl
