-- The first line that is not skipped.
use Rattle.std.proofs.Common.{ℕ, ◌≡◌, true, false, List, [], ◌∷◌, codes, bytes_eq, refl}
use Rattle.text_lines.specs.Lines.{is_skipped}
use Rattle.chain_text.specs.Reading.{begins_chain}

pub begins_here : (t : List ℕ) (ts : List (List ℕ)) → is_skipped t ≡ false → begins_chain (t ∷ ts) ≡ bytes_eq t (codes "chain 1")
unfolding begins_chain
begins_here t ts h = rw h refl

pub begins_later : (t : List ℕ) (ts : List (List ℕ)) → is_skipped t ≡ true → begins_chain (t ∷ ts) ≡ begins_chain ts
unfolding begins_chain
begins_later t ts h = rw h refl

pub begins_never : begins_chain [] ≡ false
unfolding begins_chain
begins_never = refl
