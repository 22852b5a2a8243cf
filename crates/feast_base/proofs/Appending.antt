-- Calls that append, one after another.
use Rattle.std.proofs.Common.{ℕ, ◌≡◌, List, ◌++◌, Result, Ok, Err, ap, ◌∙◌, append_assoc}
use Rattle.std.specs.Result.{IsErrAnd}
use Rattle.std.proofs.lemmas.Result.{err_from_is_err_and}
use Rattle.feast_base.specs.Appending.{Appends}

-- more was appended, and then more again
pub more_after : (old mid new : List ℕ) → ((m : List ℕ) × (mid ≡ old ++ m)) → ((m : List ℕ) × (new ≡ mid ++ m)) → (m : List ℕ) × (new ≡ old ++ m)
more_after old mid new a b = (a.0 ++ b.0, b.1 ∙ ap (λ z. z ++ b.0) a.1 ∙ append_assoc old a.0 b.0)

-- the exit of a `?` in a loop that appends
pub Appends-at_exit : {T E : Type 0} (Q : E → Type 0) (old mid new text : List ℕ) (r : Result T E) → IsErrAnd r Q →
    ((m : List ℕ) × (mid ≡ old ++ m)) → ((m : List ℕ) × (new ≡ mid ++ m)) → Appends old new r text
Appends-at_exit Q old mid new text r failed a b =
    let p = err_from_is_err_and r failed in
    rw p.1 (more_after old mid new a b)

-- one more piece is done
pub piece_done : (out new piece rest whole : List ℕ) → new ≡ out ++ piece → out ++ (piece ++ rest) ≡ whole → new ++ rest ≡ whole
piece_done out new piece rest whole a b = ap (λ z. z ++ rest) a ∙ append_assoc out piece rest ∙ b

-- a piece was appended, and then the rest
pub Appends-then : {T E : Type 0} (old mid new a b : List ℕ) (r : Result T E) → mid ≡ old ++ a → Appends mid new r b → Appends old new r (a ++ b)
Appends-then old mid new a b (Ok x) e h = h ∙ ap (λ z. z ++ b) e ∙ append_assoc old a b
Appends-then old mid new a b (Err y) e h = more_after old mid new (a, e) h
