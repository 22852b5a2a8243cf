-- Members of lists, and lists of which each pair of elements is in order.
use Rattle.std.proofs.Common.{ℕ, ◌≡◌, ◌≤◌, ◌<◌, ◌+◌, List, [], ◌∷◌, ◌++◌, refl, sym, ap, subst, arith, ◌⊎◌, inl, inr, ⊎_elim, Bool, true, false, zero, suc, ◌∙◌, length, map, cond, Some, get_or}
use Rattle.std.specs.Prelude.{◌||◌, slice_get, All, AllPairs, Contains}
use Rattle.std.specs.List.{filter, flat_map, range_with_len, list_any}
use Rattle.std.proofs.lemmas.List.Kept.{AllPairs-cons}
use Rattle.list_laws.proofs.Numbers.{same_or_more}

-- x is one of the list
abbrev pub In : {A : Type 0} → A → List A → Type 0
In x [] = ⊥
In x (y ∷ ys) = (x ≡ y) ⊎ In x ys

pub in_filter : {A : Type 0} (p : A → Bool) (xs : List A) (x : A) → In x xs → p x ≡ true → In x (filter p xs)
in_filter p [] x i h = i
in_filter p (y ∷ xs) x i h = go (p y) refl i (λ j. in_filter p xs x j h)
  where
    go : (b : Bool) → p y ≡ b → In x (y ∷ xs) → (In x xs → In x (filter p xs)) → In x (cond b (y ∷ filter p xs) (filter p xs))
    go true is i rec = ⊎_elim (λ e. inl e) (λ j. inr (rec j)) i
    go false is i rec = ⊎_elim (λ e. absurd (cc (ap p e, is, h))) (λ j. rec j) i

pub filter_in : {A : Type 0} (p : A → Bool) (xs : List A) (x : A) → In x (filter p xs) → In x xs × (p x ≡ true)
filter_in p [] x i = absurd i
filter_in p (y ∷ xs) x i = go (p y) refl i (λ j. filter_in p xs x j)
  where
    go : (b : Bool) → p y ≡ b → In x (cond b (y ∷ filter p xs) (filter p xs)) → (In x (filter p xs) → In x xs × (p x ≡ true)) → In x (y ∷ xs) × (p x ≡ true)
    go true is i rec = ⊎_elim (λ e. (inl e, ap p e ∙ is)) (λ j. let r = rec j in (inr r.0, r.1)) i
    go false is i rec = let r = rec i in (inr r.0, r.1)

pub in_left : {A : Type 0} (xs ys : List A) (x : A) → In x xs → In x (xs ++ ys)
in_left [] ys x i = absurd i
in_left (y ∷ xs) ys x i = ⊎_elim (λ e. inl e) (λ j. inr (in_left xs ys x j)) i

pub in_right : {A : Type 0} (xs ys : List A) (x : A) → In x ys → In x (xs ++ ys)
in_right [] ys x i = i
in_right (y ∷ xs) ys x i = inr (in_right xs ys x i)

pub in_either : {A : Type 0} (xs ys : List A) (x : A) → In x (xs ++ ys) → In x xs ⊎ In x ys
in_either [] ys x i = inr i
in_either (y ∷ xs) ys x i = ⊎_elim (λ e. inl (inl e)) (λ j. ⊎_elim (λ k. inl (inr k)) (λ k. inr k) (in_either xs ys x j)) i

pub in_map : {A B : Type 0} (f : A → B) (xs : List A) (x : A) → In x xs → In (f x) (map f xs)
in_map f [] x i = i
in_map f (y ∷ xs) x i = ⊎_elim (λ e. inl (ap f e)) (λ j. inr (in_map f xs x j)) i

pub map_in : {A B : Type 0} (f : A → B) (xs : List A) (y : B) → In y (map f xs) → (x : A) × In x xs × (y ≡ f x)
map_in f [] y i = absurd i
map_in f (z ∷ xs) y i = ⊎_elim (λ e. (z, inl refl, e)) (λ j. let r = map_in f xs y j in (r.0, inr r.1, r.2)) i

pub in_flat : {A B : Type 0} (f : A → List B) (xs : List A) (x : A) (y : B) → In x xs → In y (f x) → In y (flat_map f xs)
in_flat f [] x y i j = absurd i
in_flat f (z ∷ xs) x y i j = ⊎_elim (λ e. in_left (f z) (flat_map f xs) y (subst (λ q. In y (f q)) e j)) (λ k. in_right (f z) (flat_map f xs) y (in_flat f xs x y k j)) i

pub flat_in : {A B : Type 0} (f : A → List B) (xs : List A) (y : B) → In y (flat_map f xs) → (x : A) × In x xs × In y (f x)
flat_in f [] y i = absurd i
flat_in f (z ∷ xs) y i = ⊎_elim (λ k. (z, inl refl, k)) (λ k. let r = flat_in f xs y k in (r.0, inr r.1, r.2)) (in_either (f z) (flat_map f xs) y i)

pub in_range : (a n k : ℕ) → a ≤ k → k < a + n → In k (range_with_len a n)
in_range a zero k low high = absurd (omega arith)
in_range a (suc n) k low high = ⊎_elim (λ e. inl e) (λ h. inr (in_range (a + 1) n k h (omega arith))) (same_or_more a k low)

pub range_in : (a n k : ℕ) → In k (range_with_len a n) → (a ≤ k) × (k < a + n)
range_in a zero k i = absurd i
range_in a (suc n) k i = ⊎_elim {C = (a ≤ k) × (k < a + suc n)} (λ (e : k ≡ a). (omega (arith, e), omega (arith, e))) (λ j. let r = range_in (a + 1) n k j in (omega (arith, r.0), omega (arith, r.1))) i

pub in_any : {A : Type 0} (p : A → Bool) (xs : List A) (x : A) → In x xs → p x ≡ true → list_any p xs ≡ true
in_any p [] x i h = absurd i
in_any p (y ∷ xs) x i h = go (p y) refl i (λ j. in_any p xs x j h)
  where
    go : (b : Bool) → p y ≡ b → In x (y ∷ xs) → (In x xs → list_any p xs ≡ true) → (b || list_any p xs) ≡ true
    go true is i rec = refl
    go false is i rec = ⊎_elim (λ e. absurd (cc (ap p e, is, h))) (λ j. rec j) i

pub place_in : {A : Type 0} (xs : List A) (x : A) → In x xs → (k : ℕ) × (slice_get xs k ≡ Some x)
place_in [] x i = absurd i
place_in (y ∷ xs) x i = ⊎_elim (λ e. (0, ap Some (sym e))) (λ j. let r = place_in xs x j in (suc r.0, r.1)) i

pub in_get : {A : Type 0} (xs : List A) (k : ℕ) (d : A) → k < length xs → In (get_or xs k d) xs
in_get [] k d lt = absurd (omega arith)
in_get (x ∷ xs) zero d lt = inl refl
in_get (x ∷ xs) (suc k) d lt = inr (in_get xs k d (omega arith))

pub get_in : {A : Type 0} (xs : List A) (x d : A) → In x xs → (k : ℕ) × (k < length xs) × (get_or xs k d ≡ x)
get_in [] x d i = absurd i
get_in (y ∷ xs) x d i = ⊎_elim (λ e. (0, omega arith, sym e)) (λ j. let r = get_in xs x d j in (suc r.0, omega (arith, r.1), r.2)) i

-- the relation holds of each element and each later one
abbrev pub InOrder : {A : Type 0} → (A → A → Type 0) → List A → Type 0
InOrder {A} R [] = Unit {0}
InOrder {A} R (x ∷ xs) = ((y : A) → In y xs → R x y) × InOrder R xs

pub order-append : {A : Type 0} (R : A → A → Type 0) (xs ys : List A) → InOrder R xs → InOrder R ys → ((x y : A) → In x xs → In y ys → R x y) → InOrder R (xs ++ ys)
order-append R [] ys p q h = q
order-append R (x ∷ xs) ys p q h = (λ y i. ⊎_elim (λ j. p.0 y j) (λ j. h x y (inl refl) j) (in_either xs ys y i), order-append R xs ys p.1 q (λ a b i j. h a b (inr i) j))

pub order-filter : {A : Type 0} (R : A → A → Type 0) (p : A → Bool) (xs : List A) → InOrder R xs → InOrder R (filter p xs)
order-filter R p [] h = h
order-filter R p (x ∷ xs) h = go (p x) (order-filter R p xs h.1)
  where
    go : (b : Bool) → InOrder R (filter p xs) → InOrder R (cond b (x ∷ filter p xs) (filter p xs))
    go true rest = (λ y i. h.0 y (filter_in p xs y i).0, rest)
    go false rest = rest

pub order-map : {A B : Type 0} (R : B → B → Type 0) (S : A → A → Type 0) (f : A → B) (xs : List A) → ((x y : A) → S x y → R (f x) (f y)) → InOrder S xs → InOrder R (map f xs)
order-map R S f [] h o = o
order-map R S f (x ∷ xs) h o = (λ y i. let r = map_in f xs y i in subst (R (f x)) (sym r.2) (h x r.0 (o.0 r.0 r.1)), order-map R S f xs h o.1)

pub order-range : (a n : ℕ) → InOrder (λ x y. x < y) (range_with_len a n)
order-range a zero = tt
order-range a (suc n) = (λ y i. let r = range_in (a + 1) n y i in omega (arith, r.0), order-range (a + 1) n)

pub order-flat : {Y : Type 0} (R : Y → Y → Type 0) (f : ℕ → List Y) (a n : ℕ) → ((k : ℕ) → InOrder R (f k)) → ((j k : ℕ) (x y : Y) → j < k → In x (f j) → In y (f k) → R x y) → InOrder R (flat_map f (range_with_len a n))
order-flat R f a zero each across = tt
order-flat R f a (suc n) each across =
    order-append R (f a) (flat_map f (range_with_len (a + 1) n)) (each a) (order-flat R f (a + 1) n each across)
    (λ x y i j. let r = flat_in f (range_with_len (a + 1) n) y j in across a r.0 x y (omega (arith, (range_in (a + 1) n r.0 r.1).0)) i r.2)

pub order-pairs : {A : Type 0} (R : A → A → Type 0) (xs : List A) → InOrder R xs → AllPairs R xs
order-pairs R [] h = λ i j d lt within. absurd (omega arith)
order-pairs R (x ∷ xs) h = AllPairs-cons R x xs (λ k d lt. h.0 (get_or xs k d) (in_get xs k d lt)) (order-pairs R xs h.1)

pub pairs_order : {A : Type 0} (R : A → A → Type 0) (xs : List A) → AllPairs R xs → InOrder R xs
pairs_order R [] h = tt
pairs_order R (x ∷ xs) h = (
  (λ y i. let r = get_in xs y y i in subst (R x) r.2 (h 0 (suc r.0) y (omega arith) (omega (arith, r.1)))),
  pairs_order R xs (λ i j d lt within. h (suc i) (suc j) d (omega (arith, lt)) (omega (arith, within))),
)

pub contains_in : {A : Type 0} (xs : List A) (x : A) → Contains xs x → In x xs
contains_in xs x c = subst (λ y. In y xs) c.2 (in_get xs c.0 x c.1)

pub in_contains : {A : Type 0} (xs : List A) (x : A) → In x xs → Contains xs x
in_contains xs x i = let r = get_in xs x x i in (r.0, r.1, r.2)

-- what holds of each element holds at each place
pub in_all : {A : Type 0} (P : A → Type 0) (xs : List A) → ((x : A) → In x xs → P x) → All P xs
in_all P xs each k d lt = each (get_or xs k d) (in_get xs k d lt)
