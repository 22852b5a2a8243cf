-- Words that are packed, and unpacked again, and the atoms that they join to.
use Rattle.std.proofs.Common.{ℕ, suc, ◌≡◌, ◌<◌, ◌≤◌, ◌%◌, ◌/◌, ◌^◌, ◌∙◌, Bool, true, false, List, [], ◌∷◌, ◌++◌, get_or, length, map, refl, ap, arith, sym}
use Rattle.std.specs.Prelude.{◌==◌, not}
use Rattle.std.proofs.lemmas.Bool.{eqb-true}
use Rattle.bit_field.specs.Atom.{AtomValue, bits_of, empty_atom}
use Rattle.bit_field.specs.Words.{atom_of}
use Rattle.bit_field.specs.declared.TheConstants.{STATE_BITS}
use Rattle.event_film.specs.Marks.{is_nonzero, marked, unpacked}
use Rattle.event_film.specs.Packed.{joined, packed}
use Rattle.event_film.proofs.Marking.{marked_more, marked_same}

is_zero : (w : ℕ) → is_nonzero w ≡ false → 0 ≡ w
is_zero w h = go (w == 0) refl h
  where
    go : (b : Bool) → (w == 0) ≡ b → not b ≡ false → 0 ≡ w
    go true p e = sym (eqb-true w 0 p)
    go false p e = absurd (cc e)

unpacked_first : (w : ℕ) (words : List ℕ) (b : Bool) → is_nonzero w ≡ b → unpacked 0 (map is_nonzero words) (packed words) ≡ words → unpacked 0 (map is_nonzero (w ∷ words)) (packed (w ∷ words)) ≡ w ∷ words
unpacked_first w words true e h = rw e (ap (λ xs. w ∷ xs) h)
unpacked_first w words false e h = rw e (λ i. is_zero w e i ∷ h i)

-- what is packed is unpacked again
pub unpacked_packed : (words : List ℕ) → unpacked 0 (map is_nonzero words) (packed words) ≡ words
unpacked_packed [] = refl
unpacked_packed (w ∷ words) = unpacked_first w words (is_nonzero w) refl (unpacked_packed words)

count_first : (w : ℕ) (words : List ℕ) (b : Bool) → is_nonzero w ≡ b → marked (map is_nonzero words) ≡ length (packed words) → marked (map is_nonzero (w ∷ words)) ≡ length (packed (w ∷ words))
count_first w words true e h = rw e (marked_more (map is_nonzero words) ∙ ap suc h)
count_first w words false e h = rw e (marked_same (map is_nonzero words) ∙ h)

pub count_packed : (words : List ℕ) → marked (map is_nonzero words) ≡ length (packed words)
count_packed [] = refl
count_packed (w ∷ words) = count_first w words (is_nonzero w) refl (count_packed words)

-- the words of an atom join to it
back : (a : AtomValue) → a.state < 2 ^ STATE_BITS → atom_of (bits_of a % 2 ^ 64) (bits_of a / 2 ^ 64) ≡ a
back a h = grind arith

pub joined_words : (atoms : List AtomValue) → ((n : ℕ) → (get_or atoms n empty_atom).state < 2 ^ STATE_BITS) → joined (map (λ a. bits_of a % 2 ^ 64) atoms) (map (λ a. bits_of a / 2 ^ 64) atoms) ≡ atoms
joined_words [] h = refl
joined_words (a ∷ atoms) h = λ i. back a (h 0) i ∷ joined_words atoms (λ n. h (suc n)) i

-- more items after those that are marked make no difference
pub unpacked_more : (marks : List Bool) (words more : List ℕ) → marked marks ≤ length words → unpacked 0 marks (words ++ more) ≡ unpacked 0 marks words
unpacked_more [] words more h = refl
unpacked_more (false ∷ ms) words more h = ap (λ xs. 0 ∷ xs) (unpacked_more ms words more (omega (arith, h, marked_same ms)))
unpacked_more (true ∷ ms) [] more h = absurd (omega (arith, h, marked_more ms))
unpacked_more (true ∷ ms) (w ∷ words) more h = ap (λ xs. w ∷ xs) (unpacked_more ms words more (omega (arith, h, marked_more ms)))
