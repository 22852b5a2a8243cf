-- Filters and flat maps of ranges.
use Rattle.std.proofs.Common.{ℕ, zero, suc, ◌≡◌, ◌+◌, ◌-◌, ◌<◌, ◌≤◌, Bool, true, false, List, [], ◌∷◌, ◌++◌, refl, ap, ◌∙◌, arith, map, cond}
use Rattle.std.specs.Prelude.{filter, flat_map}
use Rattle.std.specs.List.{range_with_len}
use Rattle.std.proofs.lemmas.Grind.{flat_map-append}
use Rattle.std.proofs.lemmas.List.{append-nil}
use Rattle.std.proofs.lemmas.List.Elements.{filter-append}

pub filter_none : (p : ℕ → Bool) (a n : ℕ) → ((k : ℕ) → a ≤ k → k < a + n → p k ≡ false) → filter p (range_with_len a n) ≡ []
filter_none p a zero h = refl
filter_none p a (suc n) h =
    ap (λ b. cond b (a ∷ filter p (range_with_len (a + 1) n)) (filter p (range_with_len (a + 1) n))) (h a (omega arith) (omega arith))
    ∙ filter_none p (a + 1) n (λ k low high. h k (omega arith) (omega arith))

pub filter_all : (p : ℕ → Bool) (a n : ℕ) → ((k : ℕ) → a ≤ k → k < a + n → p k ≡ true) → filter p (range_with_len a n) ≡ range_with_len a n
filter_all p a zero h = refl
filter_all p a (suc n) h =
    ap (λ b. cond b (a ∷ filter p (range_with_len (a + 1) n)) (filter p (range_with_len (a + 1) n))) (h a (omega arith) (omega arith))
    ∙ ap (λ xs. a ∷ xs) (filter_all p (a + 1) n (λ k low high. h k (omega arith) (omega arith)))

-- a range of i + j numbers from a on, in two
pub range_cut : (a b n i j : ℕ) → n ≡ i + j → b ≡ a + i → range_with_len a n ≡ range_with_len a i ++ range_with_len b j
range_cut a b n zero j whole next = go (omega (arith, next)) (omega (arith, whole))
  where
    go : a ≡ b → n ≡ j → range_with_len a n ≡ range_with_len b j
    go p q = λ k. range_with_len (p k) (q k)
range_cut a b n (suc i) j whole next = go (omega (arith, whole)) (range_cut (a + 1) b (i + j) i j refl (omega (arith, next)))
  where
    go : n ≡ suc (i + j) → range_with_len (a + 1) (i + j) ≡ range_with_len (a + 1) i ++ range_with_len b j → range_with_len a n ≡ a ∷ (range_with_len (a + 1) i ++ range_with_len b j)
    go p q = ap (range_with_len a) p ∙ ap (λ xs. a ∷ xs) q

-- a range in three
pub range_in_three : (n lo hi : ℕ) → lo ≤ hi → hi ≤ n → range_with_len 0 n ≡ range_with_len 0 lo ++ (range_with_len lo (hi - lo) ++ range_with_len hi (n - hi))
range_in_three n lo hi a b =
    let whole : n ≡ lo + (n - lo) = omega arith in
    let rest : n - lo ≡ hi - lo + (n - hi) = omega arith in
    let start : lo ≡ 0 + lo = omega arith in
    let end : hi ≡ lo + (hi - lo) = omega arith in
    range_cut 0 lo n lo (n - lo) whole start ∙ ap (λ xs. range_with_len 0 lo ++ xs) (range_cut lo hi (n - lo) (hi - lo) (n - hi) rest end)

-- the middle of three, where the others are empty
middle : {X : Type 0} (a b c d : List X) → a ≡ [] → b ≡ d → c ≡ [] → a ++ (b ++ c) ≡ d
middle a b c d p q r = ap (λ xs. xs ++ (b ++ c)) p ∙ ap (λ xs. xs ++ c) q ∙ ap (λ xs. d ++ xs) r ∙ append-nil d

-- the numbers of a range that a test on an interval passes
pub filter_between : (p : ℕ → Bool) (n lo hi : ℕ) → lo ≤ hi → hi ≤ n → ((k : ℕ) → k < lo → p k ≡ false) → ((k : ℕ) → lo ≤ k → k < hi → p k ≡ true) → ((k : ℕ) → hi ≤ k → k < n → p k ≡ false) → filter p (range_with_len 0 n) ≡ range_with_len lo (hi - lo)
filter_between p n lo hi a b below inside above =
    let front = range_with_len 0 lo in
    let part = range_with_len lo (hi - lo) in
    let back = range_with_len hi (n - hi) in
    ap (filter p) (range_in_three n lo hi a b)
    ∙ filter-append p front (part ++ back)
    ∙ ap (λ xs. filter p front ++ xs) (filter-append p part back)
    ∙ middle _ _ _ part (filter_none p 0 lo (λ k low high. below k (omega arith))) (filter_all p lo (hi - lo) (λ k low high. inside k low (omega arith))) (filter_none p hi (n - hi) (λ k low high. above k low (omega arith)))

pub filter-map : {X Y : Type 0} (p : Y → Bool) (f : X → Y) (xs : List X) → filter p (map f xs) ≡ map f (filter (λ x. p (f x)) xs)
filter-map p f [] = refl
filter-map p f (x ∷ xs) = go (p (f x)) (filter-map p f xs)
  where
    go : (b : Bool) → filter p (map f xs) ≡ map f (filter (λ x. p (f x)) xs) → cond b (f x ∷ filter p (map f xs)) (filter p (map f xs)) ≡ map f (cond b (x ∷ filter (λ x. p (f x)) xs) (filter (λ x. p (f x)) xs))
    go true e = ap (λ ys. f x ∷ ys) e
    go false e = e

pub filter-flat_map : {X Y : Type 0} (p : Y → Bool) (f : X → List Y) (xs : List X) → filter p (flat_map f xs) ≡ flat_map (λ x. filter p (f x)) xs
filter-flat_map p f [] = refl
filter-flat_map p f (x ∷ xs) = filter-append p (f x) (flat_map f xs) ∙ ap (λ ys. filter p (f x) ++ ys) (filter-flat_map p f xs)

pub flat_map_none : {Y : Type 0} (f : ℕ → List Y) (a n : ℕ) → ((k : ℕ) → a ≤ k → k < a + n → f k ≡ []) → flat_map f (range_with_len a n) ≡ []
flat_map_none f a zero h = refl
flat_map_none f a (suc n) h = ap (λ xs. xs ++ flat_map f (range_with_len (a + 1) n)) (h a (omega arith) (omega arith)) ∙ flat_map_none f (a + 1) n (λ k low high. h k (omega arith) (omega arith))

pub flat_map_same : {Y : Type 0} (f g : ℕ → List Y) (a n : ℕ) → ((k : ℕ) → a ≤ k → k < a + n → f k ≡ g k) → flat_map f (range_with_len a n) ≡ flat_map g (range_with_len a n)
flat_map_same f g a zero h = refl
flat_map_same f g a (suc n) h =
    ap (λ xs. xs ++ flat_map f (range_with_len (a + 1) n)) (h a (omega arith) (omega arith))
    ∙ ap (λ xs. g a ++ xs) (flat_map_same f g (a + 1) n (λ k low high. h k (omega arith) (omega arith)))

-- a flat map over a range that is empty outside of an interval
pub flat_map_between : {Y : Type 0} (f g : ℕ → List Y) (n lo hi : ℕ) → lo ≤ hi → hi ≤ n → ((k : ℕ) → k < lo → f k ≡ []) → ((k : ℕ) → lo ≤ k → k < hi → f k ≡ g k) → ((k : ℕ) → hi ≤ k → k < n → f k ≡ []) → flat_map f (range_with_len 0 n) ≡ flat_map g (range_with_len lo (hi - lo))
flat_map_between f g n lo hi a b below inside above =
    let front = range_with_len 0 lo in
    let part = range_with_len lo (hi - lo) in
    let back = range_with_len hi (n - hi) in
    ap (flat_map f) (range_in_three n lo hi a b)
    ∙ flat_map-append f front (part ++ back)
    ∙ ap (λ xs. flat_map f front ++ xs) (flat_map-append f part back)
    ∙ middle _ _ _ (flat_map g part) (flat_map_none f 0 lo (λ k low high. below k (omega arith))) (flat_map_same f g lo (hi - lo) (λ k low high. inside k low (omega arith))) (flat_map_none f hi (n - hi) (λ k low high. above k low (omega arith)))
