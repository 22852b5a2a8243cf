-- Rows of no more than 71 bits.
use Rattle.std.proofs.Common.{◌≡◌, ℕ, zero, suc, ◌+◌, ◌≤◌, ◌<◌, sym, ap, subst, ◌∙◌, List, [], ◌∷◌, ◌++◌, length, take, get_or, Vec, Global, arith}
use Rattle.std.specs.Prelude.{sum}
use Rattle.std.proofs.lemmas.List.{map-append, length-map}
use Rattle.std.proofs.lemmas.List.Sums.{sum_by_more_le, sum_by-take-le}
use Rattle.atom_layout.specs.Rows.{rows_of, AllNarrow}

narrow_at : (rows : List (Vec ℕ Global)) (k : ℕ) (d : Vec ℕ Global) → AllNarrow (rows_of rows) → k < length rows → sum (get_or rows k d).items ≤ 71
narrow_at [] k d h lt = absurd (omega arith)
narrow_at (r ∷ rows) zero d h lt = h.0
narrow_at (r ∷ rows) (suc k) d h lt = narrow_at rows k d h.1 (omega arith)

-- the row of a class
pub row_narrow : (rows : List (Vec ℕ Global)) (k : ℕ) (d : Vec ℕ Global) (shown : List (List ℕ)) → AllNarrow (rows_of rows) → rows_of rows ≡ shown → k < length shown → d ≡ get_or rows k d → sum d.items ≤ 71
row_narrow rows k d shown h is lt same =
    let long : length (rows_of rows) ≡ length rows = length-map rows (λ (r : Vec ℕ Global). r.items) in
    let few : length (rows_of rows) ≡ length shown = ap length is in
    subst (λ (x : Vec ℕ Global). sum x.items ≤ 71) (sym same) (narrow_at rows k d h (omega (arith, long, few, lt)))

-- the sum so far, one number on
pub sum_on : (xs : List ℕ) (i : ℕ) → i < length xs → sum (take i xs) + get_or xs i 0 ≤ sum xs
sum_on xs i lt = sum_by_more_le (λ z. z) xs i 0 lt

pub sum_front : (xs : List ℕ) (i : ℕ) → sum (take i xs) ≤ sum xs
sum_front xs i = sum_by-take-le (λ z. z) xs i

narrow_more : (rows : List (List ℕ)) (r : List ℕ) → AllNarrow rows → sum r ≤ 71 → AllNarrow (rows ++ (r ∷ []))
narrow_more [] r h k = (k, tt)
narrow_more (x ∷ rows) r h k = (h.0, narrow_more rows r h.1 k)

pub narrow_on : (rows more : List (Vec ℕ Global)) (r : Vec ℕ Global) → more ≡ rows ++ (r ∷ []) → AllNarrow (rows_of rows) → sum r.items ≤ 71 → AllNarrow (rows_of more)
narrow_on rows more r e h k =
    subst AllNarrow (sym (ap rows_of e ∙ map-append (λ (v : Vec ℕ Global). v.items) rows (r ∷ []))) (narrow_more (rows_of rows) r.items h k)
