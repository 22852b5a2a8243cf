-- Lists that are equal, part by part.
use Rattle.std.proofs.Common.{◌≡◌, List, [], ◌∷◌, ◌++◌, All, length, map, refl, arith}
use Rattle.std.proofs.lemmas.List.Elements.{All-head, All-tail}

-- equal lists whose first parts have one length
pub parts_one : {A : Type 0} (xs us ys vs : List A) → length xs ≡ length us → xs ++ ys ≡ us ++ vs → (xs ≡ us) × (ys ≡ vs)
parts_one [] [] ys vs long e = (refl, e)
parts_one [] (u ∷ us) ys vs long e = absurd (omega (arith, long))
parts_one (x ∷ xs) [] ys vs long e = absurd (omega (arith, long))
parts_one (x ∷ xs) (u ∷ us) ys vs long e =
    let head : x ≡ u = cc in
    let tail : xs ++ ys ≡ us ++ vs = cc in
    let rest = parts_one xs us ys vs (omega (arith, long)) tail in
    ((λ i. head i ∷ rest.0 i), rest.1)

-- lists whose elements are told apart by a function
pub map_one : {A B : Type 0} (P : A → Type 0) (f : A → B) → ((x y : A) → P x → P y → f x ≡ f y → x ≡ y) → (xs ys : List A) → All P xs → All P ys → map f xs ≡ map f ys → xs ≡ ys
map_one P f one [] [] p q e = refl
map_one P f one [] (y ∷ ys) p q e = cc
map_one P f one (x ∷ xs) [] p q e = cc
map_one P f one (x ∷ xs) (y ∷ ys) p q e =
    let head : f x ≡ f y = cc in
    let tail : map f xs ≡ map f ys = cc in
    let first = one x y (All-head P x xs p) (All-head P y ys q) head in
    let rest = map_one P f one xs ys (All-tail P x xs p) (All-tail P y ys q) tail in
    λ i. first i ∷ rest i
