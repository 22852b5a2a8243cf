-- High words, of which each leaves the gap between an atom's type and its state.
use Rattle.std.proofs.Common.{ℕ, suc, ◌≡◌, ◌<◌, ◌/◌, ◌^◌, Bool, true, false, List, [], ◌∷◌, All, get_or, map, refl, arith}
use Rattle.std.proofs.lemmas.List.Elements.{All-cons, All-head, All-nil, All-tail}
use Rattle.bit_field.specs.Atom.{AtomValue, LeavesGap, bits_of, empty_atom}
use Rattle.bit_field.specs.declared.TheConstants.{STATE_BITS}
use Rattle.event_film.specs.Marks.{is_nonzero, unpacked}
use Rattle.event_film.specs.Packed.{packed}

gap : (a : AtomValue) → a.state < 2 ^ STATE_BITS → LeavesGap (bits_of a / 2 ^ 64)
gap a h = grind arith

first_packed : (w : ℕ) (words : List ℕ) (b : Bool) → is_nonzero w ≡ b → LeavesGap w → All LeavesGap (packed words) → All LeavesGap (packed (w ∷ words))
first_packed w words true e first rest = rw e (All-cons LeavesGap w (packed words) first rest)
first_packed w words false e first rest = rw e rest

pub gaps_packed : (atoms : List AtomValue) → ((n : ℕ) → (get_or atoms n empty_atom).state < 2 ^ STATE_BITS) → All LeavesGap (packed (map (λ a. bits_of a / 2 ^ 64) atoms))
gaps_packed [] h = All-nil LeavesGap
gaps_packed (a ∷ atoms) h =
    let w = bits_of a / 2 ^ 64 in
    first_packed w (map (λ b. bits_of b / 2 ^ 64) atoms) (is_nonzero w) refl (gap a (h 0)) (gaps_packed atoms (λ n. h (suc n)))

pub gaps_unpacked : (marks : List Bool) (words : List ℕ) → All LeavesGap words → All LeavesGap (unpacked 0 marks words)
gaps_unpacked [] words h = All-nil LeavesGap
gaps_unpacked (false ∷ ms) words h = All-cons LeavesGap 0 (unpacked 0 ms words) (omega arith) (gaps_unpacked ms words h)
gaps_unpacked (true ∷ ms) [] h = All-cons LeavesGap 0 (unpacked 0 ms []) (omega arith) (gaps_unpacked ms [] h)
gaps_unpacked (true ∷ ms) (w ∷ words) h = All-cons LeavesGap w (unpacked 0 ms words) (All-head LeavesGap w words h) (gaps_unpacked ms words (All-tail LeavesGap w words h))
