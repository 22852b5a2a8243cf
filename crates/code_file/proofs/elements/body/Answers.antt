use Rattle.std.proofs.Common.{◌≡◌, ℕ, List, [], ◌∷◌, length, false, Err, refl, sym, ◌∙◌}
use Rattle.std.specs.Prelude.{◌==◌}
use Rattle.code_file.specs.Reading.{alone, body_at}
use Rattle.code_file.proofs.elements.body.Goals as goal

not_alone : {A : Type 0} (x : A) (bytes : List ℕ) → (length bytes == 0) ≡ false → alone x bytes ≡ Err (length bytes)
not_alone x [] h = absurd cc
not_alone x (b ∷ rest) h = refl

pub returns-else-is_empty : goal.returns-else-is_empty
unfolding body_at
returns-else-is_empty c = rw c.in_ok-elements.ensures (not_alone c.in_ok-elements.elements.items c.in_ok-elements.rest.now (sym c.is_empty.ensures ∙ c.if-is_empty.false))
