-- The entries of a sorted list that have one key.
use Rattle.std.proofs.Common.{ℕ, zero, suc, ◌≡◌, ◌+◌, ◌≤◌, Bool, true, false, List, [], ◌∷◌, length, take, drop, length-drop, cond, leb, ltb, eqb, refl, sym, subst, ap, ◌∙◌, arith}
use Rattle.std.specs.Prelude.{filter}
use Rattle.std.specs.List.{AllWithin}
use Rattle.std.proofs.lemmas.Bool.{eq-eqb, ne_eqb, leb-true, leb-false, ltb-true, ltb-false}
use Rattle.std.proofs.lemmas.List.{get_or-drop}

-- those that fail in front
pub filter-drop : {X : Type 0} (p : X → Bool) (xs : List X) (i : ℕ) → AllWithin (λ x. p x ≡ false) xs 0 i → filter p (drop i xs) ≡ filter p xs
filter-drop p xs zero h = refl
filter-drop p [] (suc i) h = refl
filter-drop p (x ∷ xs) (suc i) h =
    filter-drop p xs i (λ k d low high. h (suc k) d (omega arith) (omega (arith, high)))
    ∙ ap (λ b. cond b (x ∷ filter p xs) (filter p xs)) (sym (h 0 x (omega arith) (omega arith)))

none_pass : {X : Type 0} (p : X → Bool) (xs : List X) → AllWithin (λ x. p x ≡ false) xs 0 (length xs) → [] ≡ filter p xs
none_pass p [] h = refl
none_pass p (x ∷ xs) h =
    none_pass p xs (λ k d low high. h (suc k) d (omega arith) (omega (arith, high)))
    ∙ ap (λ b. cond b (x ∷ filter p xs) (filter p xs)) (sym (h 0 x (omega arith) (omega arith)))

-- those that pass in front, and no others
pub take-filter : {X : Type 0} (p : X → Bool) (xs : List X) (n : ℕ) → n ≤ length xs → AllWithin (λ x. p x ≡ true) xs 0 n → AllWithin (λ x. p x ≡ false) xs n (length xs) → take n xs ≡ filter p xs
take-filter p xs zero le h k = none_pass p xs k
take-filter p [] (suc n) le h k = refl
take-filter p (x ∷ xs) (suc n) le h k =
    ap (λ l. x ∷ l)
    (take-filter p xs n (omega (arith, le)) (λ i d low high. h (suc i) d (omega arith) (omega (arith, high))) (λ i d low high. k (suc i) d (omega (arith, low)) (omega (arith, high))))
    ∙ ap (λ b. cond b (x ∷ filter p xs) (filter p xs)) (sym (h 0 x (omega arith) (omega arith)))

-- the entries of a key: those behind the ones below it, up to the ones above it
pub found : {X : Type 0} (key : X → ℕ) (xs : List X) (t i n : ℕ) → i ≤ length xs → n ≤ length (drop i xs) →
    AllWithin (λ x. ltb (key x) t ≡ true) xs 0 i → AllWithin (λ x. ltb (key x) t ≡ false) xs i (length xs) →
    AllWithin (λ x. leb (key x) t ≡ true) (drop i xs) 0 n → AllWithin (λ x. leb (key x) t ≡ false) (drop i xs) n (length (drop i xs)) →
    take n (drop i xs) ≡ filter (λ x. eqb (key x) t) xs
found key xs t i n in_all in_rest below others upto above =
    take-filter (λ x. eqb (key x) t) (drop i xs) n in_rest
    (λ k d low high.
    let at = get_or-drop i xs k d in
    let long = length-drop i xs in
    let not_below = others (i + k) d (omega arith) (omega (arith, long, high, in_rest)) in
    let v = ap key at in
    eq-eqb _ t (let a = leb-true _ t (upto k d low high) in let b = ltb-false _ t not_below in omega (arith, a, b, v)))
    (λ k d low high. ne_eqb _ t (λ e. let b = leb-false _ t (above k d low high) in absurd (omega (arith, e, b))))
    ∙ filter-drop (λ x. eqb (key x) t) xs i (λ k d low high. ne_eqb _ t (λ e. let b = ltb-true _ t (below k d low high) in absurd (omega (arith, e, b))))

pub found_in : {X : Type 0} (key : X → ℕ) (xs rest : List X) (t i n : ℕ) → rest ≡ drop i xs → i ≤ length xs → n ≤ length rest →
    AllWithin (λ x. ltb (key x) t ≡ true) xs 0 i → AllWithin (λ x. ltb (key x) t ≡ false) xs i (length xs) →
    AllWithin (λ x. leb (key x) t ≡ true) rest 0 n → AllWithin (λ x. leb (key x) t ≡ false) rest n (length rest) →
    take n rest ≡ filter (λ x. eqb (key x) t) xs
found_in {X} key xs rest t i n same in_all in_rest below others upto above =
    let P : List X → Type 0 = λ l. n ≤ length l → AllWithin (λ x. leb (key x) t ≡ true) l 0 n → AllWithin (λ x. leb (key x) t ≡ false) l n (length l) → take n l ≡ filter (λ x. eqb (key x) t) xs in
    let at_drop : P (drop i xs) = λ a b c. found key xs t i n in_all a below others b c in
    subst P (sym same) at_drop in_rest upto above
