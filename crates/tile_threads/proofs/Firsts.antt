-- The first of a list, taken away.
use Rattle.std.proofs.Common.{◌≡◌, ◌<◌, List, [], ◌∷◌, length, get_or, sym, arith}
use Rattle.std.specs.Prelude.{remove}

pub first_removed : {X : Type 0} (xs : List X) (x : X) → 0 < length xs → x ≡ get_or xs 0 x → xs ≡ x ∷ remove xs 0
first_removed [] x lt is = absurd (omega (arith, lt))
first_removed (y ∷ xs) x lt is = λ i. sym is i ∷ xs
