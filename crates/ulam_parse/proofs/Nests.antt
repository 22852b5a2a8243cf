-- The counts around, the innermost first.
use Rattle.std.proofs.Common.{◌≡◌, ◌≤◌, ◌+◌, ℕ, List, [], ◌∷◌, ◌++◌, arith}
use Rattle.std.specs.Prelude.{reverse}
use Rattle.std.proofs.lemmas.List.{reverse-append}
use Rattle.ulam_parse.specs.declared.symbol.Symbol.{Symbol}
use Rattle.ulam_parse.specs.Nesting.{weighs, depth, close_bracket}

pub reverse_push : (xs : List ℕ) (x : ℕ) → reverse (xs ++ (x ∷ [])) ≡ x ∷ reverse xs
reverse_push xs x = reverse-append xs (x ∷ [])

-- closing a bracket makes the nesting no deeper
pub closed_small : (outer : List ℕ) (c : ℕ) (k : Symbol) → c + weighs outer ≤ 66 → depth (close_bracket outer c k) ≤ 66
closed_small [] c k h = h
closed_small (d ∷ ds) c k h = omega (arith, h)
