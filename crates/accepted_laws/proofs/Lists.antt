-- Places in lists.
use Rattle.std.proofs.Common.{◌≡◌, ℕ, zero, suc, ◌+◌, ◌<◌, ◌≤◌, List, [], ◌∷◌, ◌++◌, length, map, take, get_or, Bool, true, false, ◌||◌, cond, Some, None, option_map, refl, sym, ap, ◌∙◌, arith}
use Rattle.std.specs.Prelude.{slice_get, position, not, nat_lt, bytes_eq}
use Rattle.std.specs.List.{list_any, position_or_len}
use Rattle.std.proofs.lemmas.Bool.{false≢true, false_from_ne_true, lt-ltb, ltb-true}

-- what stands at a place of a list whose values were changed
pub changed_at : {A B : Type 0} (f : A → B) (d : B) (xs : List A) (k : ℕ) (x : A) → slice_get xs k ≡ Some x → get_or (map f xs) k d ≡ f x
changed_at f d [] k x e = cc
changed_at f d (y ∷ xs) zero x e = let same : y ≡ x = cc in ap f same
changed_at f d (y ∷ xs) (suc k) x e = changed_at f d xs k x e

-- every place of such a list
pub changed_place : {A B : Type 0} (f : A → B) (xs : List A) (k : ℕ) → slice_get (map f xs) k ≡ option_map f (slice_get xs k)
changed_place f [] k = refl
changed_place f (x ∷ xs) zero = refl
changed_place f (x ∷ xs) (suc k) = changed_place f xs k

-- a list in front of another
pub taken_front : {A : Type 0} (xs ys : List A) (n : ℕ) → n ≤ length xs → take n (xs ++ ys) ≡ take n xs
taken_front [] [] zero le = refl
taken_front [] (y ∷ ys) zero le = refl
taken_front [] ys (suc n) le = absurd (omega (arith, le))
taken_front (x ∷ xs) ys zero le = refl
taken_front (x ∷ xs) ys (suc n) le = ap (λ zs. x ∷ zs) (taken_front xs ys n (omega (arith, le)))

pub value_front : {A : Type 0} (xs ys : List A) (n : ℕ) (d : A) → n < length xs → get_or (xs ++ ys) n d ≡ get_or xs n d
value_front [] ys n d lt = absurd (omega (arith, lt))
value_front (x ∷ xs) ys zero d lt = refl
value_front (x ∷ xs) ys (suc n) d lt = value_front xs ys n d (omega (arith, lt))

pub place_front : {A : Type 0} (xs ys : List A) (n : ℕ) → n < length xs → slice_get (xs ++ ys) n ≡ slice_get xs n
place_front [] ys n lt = absurd (omega (arith, lt))
place_front (x ∷ xs) ys zero lt = refl
place_front (x ∷ xs) ys (suc n) lt = place_front xs ys n (omega (arith, lt))

-- The first place of a name

neither_of : (a b : Bool) → (a || b) ≡ false → (a ≡ false) × (b ≡ false)
neither_of true b e = absurd (false≢true (sym e))
neither_of false b e = (refl, e)

-- names, and the one that is looked for
module _ (n : List ℕ) where
  next_len : (m : List ℕ) (ms : List (List ℕ)) (b : Bool) → bytes_eq n m ≡ b → position_or_len (bytes_eq n) (m ∷ ms) ≡ cond (not b) (1 + position_or_len (bytes_eq n) ms) 0
  next_len m ms b e = ap (λ c. cond (not c) (1 + position_or_len (bytes_eq n) ms) 0) e

  by_len : (ms : List (List ℕ)) (k : ℕ) → position_or_len (bytes_eq n) ms ≡ k → k < length ms → position (bytes_eq n) ms ≡ Some k
  by_len ms k e lt = ap (λ j. cond (nat_lt j (length ms)) (Some j) None) e ∙ ap (λ b. cond b (Some k) None) (lt-ltb k (length ms) lt)

  pub first_here : (m : List ℕ) (ms : List (List ℕ)) → bytes_eq n m ≡ true → position (bytes_eq n) (m ∷ ms) ≡ Some 0
  first_here m ms e = by_len (m ∷ ms) 0 (next_len m ms true e) (omega arith)

  pub first_later : (m : List ℕ) (ms : List (List ℕ)) (k : ℕ) → bytes_eq n m ≡ false → position (bytes_eq n) ms ≡ Some k → position (bytes_eq n) (m ∷ ms) ≡ Some (suc k)
  first_later m ms k e at = go (nat_lt (position_or_len (bytes_eq n) ms) (length ms)) refl at
    where
      go : (b : Bool) → nat_lt (position_or_len (bytes_eq n) ms) (length ms) ≡ b → cond b (Some (position_or_len (bytes_eq n) ms)) None ≡ Some k → position (bytes_eq n) (m ∷ ms) ≡ Some (suc k)
      go false is h = cc
      go true is h =
          let same : position_or_len (bytes_eq n) ms ≡ k = cc in
          let lt : position_or_len (bytes_eq n) ms < length ms = ltb-true _ _ is in
          let next = next_len m ms false e in
          by_len (m ∷ ms) (suc k) (omega (arith, next, same)) (omega (arith, same, lt))

  none_len : (ms : List (List ℕ)) → list_any (bytes_eq n) ms ≡ false → position_or_len (bytes_eq n) ms ≡ length ms
  none_len [] e = refl
  none_len (m ∷ ms) e =
      let parts = neither_of (bytes_eq n m) (list_any (bytes_eq n) ms) e in
      let rest : position_or_len (bytes_eq n) ms ≡ length ms = none_len ms parts.1 in
      let next = next_len m ms false parts.0 in
      omega (arith, next, rest)

  pub first_none : (ms : List (List ℕ)) → list_any (bytes_eq n) ms ≡ false → position (bytes_eq n) ms ≡ None
  first_none ms e =
      let long : position_or_len (bytes_eq n) ms ≡ length ms = none_len ms e in
      let over : nat_lt (length ms) (length ms) ≡ false = false_from_ne_true _ (λ h. let lt : length ms < length ms = ltb-true _ _ h in absurd (omega (arith, lt))) in
      ap (λ k. cond (nat_lt k (length ms)) (Some k) None) long ∙ ap (λ b. cond b (Some (length ms)) None) over
