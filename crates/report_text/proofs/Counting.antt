-- Entries that have keys, no two of them the same, are no more than there are keys.
use Rattle.std.proofs.Common.{ℕ, zero, suc, ◌≡◌, ◌+◌, ◌-◌, ◌<◌, ◌≤◌, Bool, true, List, [], ◌∷◌, ◌++◌, All, cond, length, length-append, get_or, map, sum_by, refl, ap, subst, arith, ⊎_elim}
use Rattle.std.specs.Prelude.{count_by}
use Rattle.std.specs.List.{range_with_len}
use Rattle.std.proofs.lemmas.List.Elements.{All-head, All-tail}
use Rattle.std.proofs.lemmas.List.FromFn.{length-map-range_with_len}
use Rattle.std.proofs.lemmas.List.Sums.{sum_by-cons, sum_by-le}
use Rattle.list_laws.proofs.Counts.{count_some}
use Rattle.list_laws.proofs.Members.{In, in_either, in_left, in_map, in_range, in_right, map_in, range_in}
use Rattle.draw_stream.specs.declared.attempt.Attempt.{Attempt}

module _ {K A : Type 0} (is : K → A → Bool) where
  -- how many entries the keys have, key by key
  abbrev tally : List K → List A → ℕ
  tally keys xs = sum_by (λ k. count_by (is k) xs) keys

  tally_more : (keys : List K) (x : A) (xs : List A) → tally keys (x ∷ xs) ≡ count_by (λ k. is k x) keys + tally keys xs
  tally_more [] x xs = omega arith
  tally_more (k ∷ ks) x xs =
      let a = sum_by-cons (λ k. count_by (is k) (x ∷ xs)) k ks in
      let b = sum_by-cons (λ y. cond (is k y) 1 0) x xs in
      let c = sum_by-cons (λ j. cond (is j x) 1 0) k ks in
      let d = sum_by-cons (λ k. count_by (is k) xs) k ks in
      omega (arith, a, b, c, d, tally_more ks x xs)

  -- an entry has one of the keys
  abbrev pub HasKey : List K → A → Type 0
  HasKey keys x = (k : K) × In k keys × (is k x ≡ true)

  tally_all : (keys : List K) (xs : List A) → All (HasKey keys) xs → length xs ≤ tally keys xs
  tally_all keys [] all = omega arith
  tally_all keys (x ∷ xs) all =
      let k = All-head (HasKey keys) x xs all in
      let here = count_some (λ j. is j x) keys k.0 k.1 k.2 in
      omega (arith, here, tally_more keys x xs, tally_all keys xs (All-tail (HasKey keys) x xs all))

  pub few_keyed : (keys : List K) (xs : List A) → All (HasKey keys) xs → All (λ k. count_by (is k) xs ≤ 1) keys → length xs ≤ length keys
  few_keyed keys xs all once = omega (arith, tally_all keys xs all, sum_by-le (λ k. count_by (is k) xs) 1 keys once)

-- the key of an attempt: its tile and its number
abbrev pub key : ℕ → ℕ → ℕ × ℕ
key t i = (t, i)

-- the keys of all attempts of some lists, the first of which is of tile t
abbrev pub keys_from : ℕ → List (List Attempt) → List (ℕ × ℕ)
keys_from t [] = []
keys_from t (l ∷ ls) = map (key t) (range_with_len 0 (length l)) ++ keys_from (t + 1) ls

pub keys_count : (t : ℕ) (ls : List (List Attempt)) → length (keys_from t ls) ≡ sum_by length ls
keys_count t [] = refl
keys_count t (l ∷ ls) =
    let here = length-map-range_with_len (key t) 0 (length l) in
    let all = length-append (map (key t) (range_with_len 0 (length l))) (keys_from (t + 1) ls) in
    let sum = sum_by-cons (λ (x : List Attempt). length x) l ls in
    omega (arith, here, all, sum, keys_count (t + 1) ls)

pub key_there : (t : ℕ) (ls : List (List Attempt)) (u i : ℕ) → i < length (get_or ls u []) → In (t + u, i) (keys_from t ls)
key_there t [] u i lt = absurd (omega arith)
key_there t (l ∷ ls) zero i lt =
    let at : t ≡ t + zero = omega arith in
    subst (λ n. In (n, i) (keys_from t (l ∷ ls))) at
    (in_left (map (key t) (range_with_len 0 (length l))) (keys_from (t + 1) ls) (t, i) (in_map (key t) (range_with_len 0 (length l)) i (in_range 0 (length l) i (omega arith) (omega (arith, lt)))))
key_there t (l ∷ ls) (suc u) i lt =
    let at : t + 1 + u ≡ t + suc u = omega arith in
    in_right (map (key t) (range_with_len 0 (length l))) (keys_from (t + 1) ls) (t + suc u, i) (subst (λ n. In (n, i) (keys_from (t + 1) ls)) at (key_there (t + 1) ls u i lt))

pub key_low : (t : ℕ) (ls : List (List Attempt)) (p : ℕ × ℕ) → In p (keys_from t ls) → (t ≤ p.0) × (p.1 < length (get_or ls (p.0 - t) []))
key_low t [] p i = absurd i
key_low t (l ∷ ls) p i =
    ⊎_elim
    (λ here.
    let k = map_in (key t) (range_with_len 0 (length l)) p here in
    let tile : p.0 ≡ t = ap (λ (q : ℕ × ℕ). q.0) k.2 in
    let number : p.1 ≡ k.0 = ap (λ (q : ℕ × ℕ). q.1) k.2 in
    let low = (range_in 0 (length l) k.0 k.1).1 in
    let none : 0 ≡ p.0 - t = omega (arith, tile) in
    (omega (arith, tile), subst (λ u. p.1 < length (get_or (l ∷ ls) u [])) none (omega (arith, number, low))))
    (λ there.
    let k = key_low (t + 1) ls p there in
    let next : suc (p.0 - (t + 1)) ≡ p.0 - t = omega (arith, k.0) in
    (omega (arith, k.0), subst (λ u. p.1 < length (get_or (l ∷ ls) u [])) next k.1))
    (in_either (map (key t) (range_with_len 0 (length l))) (keys_from (t + 1) ls) p i)
