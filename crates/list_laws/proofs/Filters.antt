-- Filters of a range and of its beginnings.
use Rattle.std.proofs.Common.{ℕ, ◌≡◌, ◌+◌, ◌-◌, ◌<◌, ◌≤◌, Bool, true, false, ◌&&◌, zero, suc, List, [], ◌∷◌, ◌++◌, length, get_or, refl, sym, ap, ◌∙◌, arith, cond, take}
use Rattle.std.specs.Prelude.{filter}
use Rattle.std.specs.List.{range_with_len}
use Rattle.std.proofs.lemmas.List.{append-nil, length-append, length-take}
use Rattle.std.proofs.lemmas.List.Elements.{filter-append}
use Rattle.list_laws.proofs.Ranges.{range_cut}

-- one more number of a range
pub filter_more : (p : ℕ → Bool) (n : ℕ) → filter p (range_with_len 0 (n + 1)) ≡ filter p (range_with_len 0 n) ++ cond (p n) (n ∷ []) []
filter_more p n =
    let one : n ≡ 0 + n = omega arith in
    ap (filter p) (range_cut 0 n (n + 1) n 1 refl one) ∙ filter-append p (range_with_len 0 n) (n ∷ [])

-- the beginning of a range has no more that pass
pub filter_start : (p : ℕ → Bool) (k n : ℕ) → k ≤ n → length (filter p (range_with_len 0 k)) ≤ length (filter p (range_with_len 0 n))
filter_start p k n le =
    let whole : n ≡ k + (n - k) = omega arith in
    let one : k ≡ 0 + k = omega arith in
    let cut : filter p (range_with_len 0 n) ≡ filter p (range_with_len 0 k) ++ filter p (range_with_len k (n - k)) =
    ap (filter p) (range_cut 0 k n k (n - k) whole one) ∙ filter-append p (range_with_len 0 k) (range_with_len k (n - k)) in
    omega (arith, ap length cut, length-append (filter p (range_with_len 0 k)) (filter p (range_with_len k (n - k))))

-- while one more passes, fewer than all have
pub filter_room : (p : ℕ → Bool) (k n : ℕ) → k < n → p k ≡ true → length (filter p (range_with_len 0 k)) < length (filter p (range_with_len 0 n))
filter_room p k n lt passes =
    let more : filter p (range_with_len 0 (k + 1)) ≡ filter p (range_with_len 0 k) ++ k ∷ [] = filter_more p k ∙ ap (λ b. filter p (range_with_len 0 k) ++ cond b (k ∷ []) []) passes in
    omega (arith, lt, filter_start p (k + 1) n (omega (arith, lt)), ap length more, length-append (filter p (range_with_len 0 k)) (k ∷ []))

-- two filters are one of both tests
pub filter_twice : {X : Type 0} (p q : X → Bool) (xs : List X) → filter q (filter p xs) ≡ filter (λ x. p x && q x) xs
filter_twice p q [] = refl
filter_twice p q (x ∷ xs) = go (p x) (filter_twice p q xs)
  where
    go : (b : Bool) → filter q (filter p xs) ≡ filter (λ x. p x && q x) xs → filter q (cond b (x ∷ filter p xs) (filter p xs)) ≡ cond (b && q x) (x ∷ filter (λ x. p x && q x) xs) (filter (λ x. p x && q x) xs)
    go true e = ap (λ ys. cond (q x) (x ∷ ys) ys) e
    go false e = e

-- no more pass than there are
pub filter_short : {X : Type 0} (p : X → Bool) (xs : List X) → length (filter p xs) ≤ length xs
filter_short p [] = omega arith
filter_short p (x ∷ xs) = go (p x) (filter_short p xs)
  where
    go : (b : Bool) → length (filter p xs) ≤ length xs → length (cond b (x ∷ filter p xs) (filter p xs)) ≤ length (x ∷ xs)
    go true h = omega (arith, h)
    go false h = omega (arith, h)

-- no more of a part pass than of the whole
pub filter_fewer : {X : Type 0} (p q : X → Bool) (xs : List X) → length (filter p (filter q xs)) ≤ length (filter p xs)
filter_fewer p q [] = omega arith
filter_fewer p q (x ∷ xs) = go (q x) (filter_fewer p q xs)
  where
    kept_both : (b : Bool) → length (filter p (filter q xs)) ≤ length (filter p xs) → length (cond b (x ∷ filter p (filter q xs)) (filter p (filter q xs))) ≤ length (cond b (x ∷ filter p xs) (filter p xs))
    kept_both true h = omega (arith, h)
    kept_both false h = h

    kept_one : (b : Bool) → length (filter p (filter q xs)) ≤ length (filter p xs) → length (filter p (filter q xs)) ≤ length (cond b (x ∷ filter p xs) (filter p xs))
    kept_one true h = omega (arith, h)
    kept_one false h = h

    go : (b : Bool) → length (filter p (filter q xs)) ≤ length (filter p xs) → length (filter p (cond b (x ∷ filter q xs) (filter q xs))) ≤ length (cond (p x) (x ∷ filter p xs) (filter p xs))
    go true h = kept_both (p x) h
    go false h = kept_one (p x) h

-- where an element that passes stands among those that pass
pub filter_place : {X : Type 0} (p : X → Bool) (xs : List X) (k : ℕ) (d : X) → k < length xs → p (get_or xs k d) ≡ true →
    (length (filter p (take k xs)) < length (filter p xs)) × (get_or (filter p xs) (length (filter p (take k xs))) d ≡ get_or xs k d)
filter_place p [] k d lt h = absurd (omega arith)
filter_place p (x ∷ xs) zero d lt h = go (p x) h
  where
    go : (b : Bool) → b ≡ true → (0 < length (cond b (x ∷ filter p xs) (filter p xs))) × (get_or (cond b (x ∷ filter p xs) (filter p xs)) 0 d ≡ x)
    go true e = (omega arith, refl)
    go false e = absurd (cc (e))
filter_place p (x ∷ xs) (suc k) d lt h = go (p x) (filter_place p xs k d (omega arith) h)
  where
    go : (b : Bool) → (length (filter p (take k xs)) < length (filter p xs)) × (get_or (filter p xs) (length (filter p (take k xs))) d ≡ get_or xs k d) →
        (length (cond b (x ∷ filter p (take k xs)) (filter p (take k xs))) < length (cond b (x ∷ filter p xs) (filter p xs))) × (get_or (cond b (x ∷ filter p xs) (filter p xs)) (length (cond b (x ∷ filter p (take k xs)) (filter p (take k xs)))) d ≡ get_or xs k d)
    go true r = (omega (arith, r.0), r.1)
    go false r = r

-- a list that grows by each number that passes
pub filter_next : (p : ℕ → Bool) (n : ℕ) (b : Bool) (old new : List ℕ) → p n ≡ b → old ≡ filter p (range_with_len 0 n) → new ≡ old ++ cond b (n ∷ []) [] → new ≡ filter p (range_with_len 0 (n + 1))
filter_next p n b old new is start e = e ∙ (λ i. start i ++ cond (sym is i) (n ∷ []) []) ∙ sym (filter_more p n)

pub grown : {X : Type 0} (xs : List X) (x : X) (b : Bool) → b ≡ true → xs ++ x ∷ [] ≡ xs ++ cond b (x ∷ []) []
grown xs x b is = ap (λ c. xs ++ cond c (x ∷ []) []) (sym is)

pub kept : {X : Type 0} (xs : List X) (x : X) (b : Bool) → b ≡ false → xs ≡ xs ++ cond b (x ∷ []) []
kept xs x b is = sym (append-nil xs) ∙ ap (λ c. xs ++ cond c (x ∷ []) []) (sym is)

-- what passes of the first i is at most i
pub filter_take : (p : ℕ → Bool) (xs : List ℕ) (i : ℕ) → length (filter p (take i xs)) ≤ i
filter_take p xs i = omega (arith, filter_short p (take i xs), length-take i xs)

-- the numbers of the entries that pass a test are as many as the entries
pub count_places : {X : Type 0} (p : X → Bool) (q : ℕ → Bool) (xs : List X) (a : ℕ) (d : X) → ((k : ℕ) → k < length xs → q (a + k) ≡ p (get_or xs k d)) → length (filter q (range_with_len a (length xs))) ≡ length (filter p xs)
count_places p q [] a d h = refl
count_places p q (x ∷ xs) a d h = go (p x) (q a) (first (h 0 (omega arith))) (count_places p q xs (a + 1) d (λ k lt. ap q (next k) ∙ h (suc k) (omega arith)))
  where
    next : (k : ℕ) → a + 1 + k ≡ a + suc k
    next k = omega arith

    start : a + 0 ≡ a
    start = omega arith

    first : q (a + 0) ≡ p x → q a ≡ p x
    first e = ap q (sym start) ∙ e

    go : (b c : Bool) → c ≡ b → length (filter q (range_with_len (a + 1) (length xs))) ≡ length (filter p xs) → length (cond c (a ∷ filter q (range_with_len (a + 1) (length xs))) (filter q (range_with_len (a + 1) (length xs)))) ≡ length (cond b (x ∷ filter p xs) (filter p xs))
    go true true e rest = omega (arith, rest)
    go false false e rest = rest
    go true false e rest = absurd (cc (e))
    go false true e rest = absurd (cc (e))
