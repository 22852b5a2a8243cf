-- Merging lists gives all their elements, each once and in order.
use Rattle.std.proofs.Common.{ℕ, ◌≡◌, ◌+◌, List, [], ◌∷◌, ◌++◌, refl, sym, ap, subst, arith, ◌⊎◌, inl, inr, ⊎_elim, Bool, true, false, Option, Some, None, zero, suc, ◌∙◌, ◌==◌, eqb-true, length, drop}
use Rattle.std.specs.Prelude.{if◌then◌else◌, slice_get, IsPermutation}
use Rattle.std.proofs.lemmas.List.Sorted.{IsPermutation-refl, IsPermutation-cons, IsPermutation-append_right, IsPermutation-middle, IsPermutation-trans, length_permutation}
use Rattle.list_laws.proofs.Members.{In, in_left, in_right, in_either}
use Rattle.event_journal.specs.Merged.{concat, better, least_from, without, found_then, merged_few, merged}

-- a strict order: of two elements that are in order a third is after the first or before the second
pub record IsOrder {A : Type 0} (lt : A → A → Bool) : Type 0 where
  pub irrefl : (x : A) → lt x x ≡ false
  pub trans : (x y z : A) → lt x y ≡ true → lt y z ≡ true → lt x z ≡ true
  pub cotrans : (x y z : A) → lt x z ≡ true → (lt x y ≡ true) ⊎ (lt y z ≡ true)

-- each element stands before all that follow
abbrev pub RisesBy : {A : Type 0} → (A → A → Bool) → List A → Type 0
RisesBy lt [] = Unit {0}
RisesBy lt (x ∷ xs) = ((y : _) → In y xs → lt x y ≡ true) × RisesBy lt xs

-- each list rises
abbrev pub AllRise : {A : Type 0} → (A → A → Bool) → List (List A) → Type 0
AllRise lt [] = Unit {0}
AllRise lt (xs ∷ ls) = RisesBy lt xs × AllRise lt ls

-- of two elements of different lists one stands before the other
abbrev pub AreApart : {A : Type 0} → (A → A → Bool) → List (List A) → Type 0
AreApart lt [] = Unit {0}
AreApart lt (xs ∷ ls) = ((x y : _) → In x xs → In y (concat ls) → (lt x y ≡ true) ⊎ (lt y x ≡ true)) × AreApart lt ls

module _ {A : Type 0} (lt : A → A → Bool) (o : IsOrder lt) where
  is_not : (b : Bool) → (b ≡ true → ⊥) → b ≡ false
  is_not true f = absurd (f refl)
  is_not false f = refl

  -- no first element is before x
  abbrev pub NoneBefore : A → List (List A) → Type 0
  NoneBefore x [] = Unit {0}
  NoneBefore x ([] ∷ ls) = NoneBefore x ls
  NoneBefore x ((h ∷ hs) ∷ ls) = (lt h x ≡ false) × NoneBefore x ls

  abbrev pub NotBefore : Option (ℕ × A) → A → Type 0
  NotBefore None x = Unit {0}
  NotBefore (Some p) x = lt p.1 x ≡ false

  -- what the search found: an element that it had, or the first one of a list
  abbrev pub Found : Option (ℕ × A) → ℕ → List (List A) → Option (ℕ × A) → Type 0
  Found best k ls None = (best ≡ None) × (concat ls ≡ [])
  Found best k ls (Some p) = ((best ≡ Some p) ⊎ ((j : ℕ) × (xs : List A) × (p.0 ≡ k + j) × (slice_get ls j ≡ Some (p.1 ∷ xs)))) × NoneBefore p.1 ls × NotBefore best p.1

  later : (best : Option (ℕ × A)) (k : ℕ) (ls : List (List A)) (r : Option (ℕ × A)) → Found best (k + 1) ls r → Found best k ([] ∷ ls) r
  later best k ls None f = f
  later best k ls (Some p) f = (⊎_elim (λ e. inl e) (λ (q : (j : ℕ) × (xs : List A) × (p.0 ≡ k + 1 + j) × (slice_get ls j ≡ Some (p.1 ∷ xs))). inr (suc q.0, q.1, omega (arith, q.2), q.3)) f.0, f.1, f.2)

  more : (best : Option (ℕ × A)) (k : ℕ) (x : A) (xs : List A) (ls : List (List A)) (r : Option (ℕ × A)) → Found (better lt best k x) (k + 1) ls r → Found best k ((x ∷ xs) ∷ ls) r
  more None k x xs ls None f = absurd (cc (f.0))
  more None k x xs ls (Some p) f = (
    inr (⊎_elim (λ (e : Some (k, x) ≡ Some p). let a : k ≡ p.0 = cc (e) in let b : x ≡ p.1 = cc (e) in (0, xs, omega (arith, a), ap (λ y. Some (y ∷ xs)) b))
        (λ (q : (j : ℕ) × (ys : List A) × (p.0 ≡ k + 1 + j) × (slice_get ls j ≡ Some (p.1 ∷ ys))). (suc q.0, q.1, omega (arith, q.2), q.3)) f.0),
    (f.2, f.1),
    tt,
  )
  more (Some b) k x xs ls r f = go (lt x b.1) refl r f
    where
      go : (t : Bool) → lt x b.1 ≡ t → (r : Option (ℕ × A)) → Found (if t then Some (k, x) else Some b) (k + 1) ls r → Found (Some b) k ((x ∷ xs) ∷ ls) r
      go true is None f' = absurd (cc (f'.0))
      go false is None f' = absurd (cc (f'.0))
      go true is (Some p) f' = (
        inr (⊎_elim (λ (e : Some (k, x) ≡ Some p). let a : k ≡ p.0 = cc (e) in let c : x ≡ p.1 = cc (e) in (0, xs, omega (arith, a), ap (λ y. Some (y ∷ xs)) c))
            (λ (q : (j : ℕ) × (ys : List A) × (p.0 ≡ k + 1 + j) × (slice_get ls j ≡ Some (p.1 ∷ ys))). (suc q.0, q.1, omega (arith, q.2), q.3)) f'.0),
        (f'.2, f'.1),
        is_not (lt b.1 p.1) (λ h. absurd (cc (o.trans x b.1 p.1 is h, f'.2))),
      )
      go false is (Some p) f' = (
        ⊎_elim (λ e. inl e) (λ (q : (j : ℕ) × (ys : List A) × (p.0 ≡ k + 1 + j) × (slice_get ls j ≡ Some (p.1 ∷ ys))). inr (suc q.0, q.1, omega (arith, q.2), q.3)) f'.0,
        (is_not (lt x p.1) (λ h. ⊎_elim {C = ⊥} (λ a. absurd (cc (a, is))) (λ a. absurd (cc (a, f'.2))) (o.cotrans x b.1 p.1 h)), f'.1),
        f'.2,
      )

  found : (best : Option (ℕ × A)) (k : ℕ) (ls : List (List A)) → Found best k ls (least_from lt best k ls)
  unfolding least_from
  found None k [] = (refl, refl)
  found (Some b) k [] = (inl refl, tt, o.irrefl b.1)
  found best k ([] ∷ ls) = later best k ls (least_from lt best (k + 1) ls) (found best (k + 1) ls)
  found best k ((x ∷ xs) ∷ ls) = more best k x xs ls (least_from lt (better lt best k x) (k + 1) ls) (found (better lt best k x) (k + 1) ls)

  -- an element less: the others, in another order
  pub taken : (ls : List (List A)) (k : ℕ) (x : A) (xs : List A) → slice_get ls k ≡ Some (x ∷ xs) → IsPermutation (concat ls) (x ∷ concat (without ls k))
  unfolding without
  taken [] k x xs at = absurd (cc (at))
  taken (ys ∷ ls) zero x xs at =
      let e : ys ≡ x ∷ xs = cc (at) in
      subst (λ q. IsPermutation (q ++ concat ls) (x ∷ (drop 1 q ++ concat ls))) (sym e) (IsPermutation-refl (x ∷ (xs ++ concat ls)))
  taken (ys ∷ ls) (suc k) x xs at =
      IsPermutation-trans _ _ _ (IsPermutation-append_right ys (concat ls) (x ∷ concat (without ls k)) (taken ls k x xs at)) (IsPermutation-middle ys x (concat (without ls k)))

  pub merged_all : (n : ℕ) (ls : List (List A)) → length (concat ls) ≡ n → IsPermutation (concat ls) (merged_few lt n ls)
  unfolding merged_few
  merged_all zero ls e = go (concat ls) e
    where
      go : (xs : List A) → length xs ≡ 0 → IsPermutation xs []
      go [] e' = IsPermutation-refl []
      go (x ∷ xs) e' = absurd (omega (arith, e'))
  merged_all (suc n) ls e = go (least_from lt None 0 ls) (found None 0 ls) (λ ks le. merged_all n ks le)
    where
      go : (r : Option (ℕ × A)) → Found None 0 ls r → ((ks : List (List A)) → length (concat ks) ≡ n → IsPermutation (concat ks) (merged_few lt n ks)) → IsPermutation (concat ls) (found_then r (λ k. merged_few lt n (without ls k)))
      go None f rec = absurd (omega (arith, e, ap length f.1))
      go (Some p) f rec = ⊎_elim (λ h. absurd (cc (h)))
          (λ (q : (j : ℕ) × (xs : List A) × (p.0 ≡ 0 + j) × (slice_get ls j ≡ Some (p.1 ∷ xs))).
          let same : p.0 ≡ q.0 = omega (arith, q.2) in
          let t = taken ls p.0 p.1 q.1 (ap (slice_get ls) same ∙ q.3) in
          let long : suc (length (concat (without ls p.0))) ≡ length (concat ls) = length_permutation (concat ls) (p.1 ∷ concat (without ls p.0)) t in
          IsPermutation-trans _ _ _ t (IsPermutation-cons p.1 _ _ (rec (without ls p.0) (omega (arith, long, e))))) f.0

  -- the walk gives all elements, each once
  pub merged_permutes : (ls : List (List A)) → IsPermutation (concat ls) (merged lt ls)
  unfolding merged
  merged_permutes ls = merged_all (length (concat ls)) ls refl

  still_in : (ls : List (List A)) (k : ℕ) (y : A) → In y (concat (without ls k)) → In y (concat ls)
  unfolding without
  still_in [] k y i = i
  still_in (xs ∷ ls) zero y i = ⊎_elim (λ j. in_left xs (concat ls) y (dropped xs y j)) (λ j. in_right xs (concat ls) y j) (in_either (drop 1 xs) (concat ls) y i)
    where
      dropped : (xs : List A) (y : A) → In y (drop 1 xs) → In y xs
      dropped [] y i = i
      dropped (x ∷ xs) y i = inr i
  still_in (xs ∷ ls) (suc k) y i = ⊎_elim (λ j. in_left xs (concat ls) y j) (λ j. in_right xs (concat ls) y (still_in ls k y j)) (in_either xs (concat (without ls k)) y i)

  still_rise : (ls : List (List A)) (k : ℕ) → AllRise lt ls → AllRise lt (without ls k)
  unfolding without
  still_rise [] k r = tt
  still_rise ([] ∷ ls) zero r = (tt, r.1)
  still_rise ((x ∷ xs) ∷ ls) zero r = (r.0.1, r.1)
  still_rise (xs ∷ ls) (suc k) r = (r.0, still_rise ls k r.1)

  still_apart : (ls : List (List A)) (k : ℕ) → AreApart lt ls → AreApart lt (without ls k)
  unfolding without
  still_apart [] k a = tt
  still_apart ([] ∷ ls) zero a = a
  still_apart ((x ∷ xs) ∷ ls) zero a = (λ y z i j. a.0 y z (inr i) j, a.1)
  still_apart (xs ∷ ls) (suc k) a = (λ y z i j. a.0 y z i (still_in ls k z j), still_apart ls k a.1)

  -- what no first element is before, no element is before
  never_before : (x : A) (ls : List (List A)) → NoneBefore x ls → AllRise lt ls → (y : A) → In y (concat ls) → lt y x ≡ false
  never_before x [] n r y i = absurd i
  never_before x ([] ∷ ls) n r y i = never_before x ls n r.1 y i
  never_before x ((h ∷ hs) ∷ ls) n r y i = ⊎_elim
      (λ (e : y ≡ h). ap (λ z. lt z x) e ∙ n.0)
      (λ j. ⊎_elim (λ l. is_not (lt y x) (λ b. absurd (cc (o.trans h y x (r.0.0 y l) b, n.0)))) (λ l. never_before x ls n.1 r.1 y l) (in_either hs (concat ls) y j)) i

  -- the least of the first elements is before all others
  least_first : (ls : List (List A)) (k : ℕ) (x : A) (xs : List A) → slice_get ls k ≡ Some (x ∷ xs) → NoneBefore x ls → AllRise lt ls → AreApart lt ls → (y : A) → In y (concat (without ls k)) → lt x y ≡ true
  unfolding without
  least_first [] k x xs at n r a y i = absurd i
  least_first (zs ∷ ls) zero x xs at n r a y i =
      let e : zs ≡ x ∷ xs = cc (at) in
      let rise : RisesBy lt (x ∷ xs) = subst (RisesBy lt) e r.0 in
      let none : (lt x x ≡ false) × NoneBefore x ls = subst (λ q. NoneBefore x (q ∷ ls)) e n in
      ⊎_elim (λ j. rise.0 y (subst (λ q. In y (drop 1 q)) e j))
      (λ j. ⊎_elim (λ h. h) (λ h. absurd (cc (h, never_before x ls none.1 r.1 y j))) (a.0 x y (subst (In x) (sym e) (inl refl)) j)) (in_either (drop 1 zs) (concat ls) y i)
  least_first (zs ∷ ls) (suc k) x xs at n r a y i =
      ⊎_elim (λ j. ⊎_elim (λ h. absurd (cc (h, low zs n r.0 y j))) (λ h. h) (a.0 y x j (there ls k at)))
      (λ j. least_first ls k x xs at (rest zs n) r.1 a.1 y j) (in_either zs (concat (without ls k)) y i)
    where
      rest : (zs : List A) → NoneBefore x (zs ∷ ls) → NoneBefore x ls
      rest [] q = q
      rest (z ∷ zs) q = q.1

      low : (zs : List A) → NoneBefore x (zs ∷ ls) → RisesBy lt zs → (y : A) → In y zs → lt y x ≡ false
      low [] q r' y' j = absurd j
      low (z ∷ zs) q r' y' j = ⊎_elim (λ (e : y' ≡ z). ap (λ v. lt v x) e ∙ q.0) (λ l. is_not (lt y' x) (λ b. absurd (cc (o.trans z y' x (r'.0 y' l) b, q.0)))) j

      there : (ls : List (List A)) (k : ℕ) → slice_get ls k ≡ Some (x ∷ xs) → In x (concat ls)
      there [] k q = absurd (cc (q))
      there (ys ∷ ls) zero q = let e : ys ≡ x ∷ xs = cc (q) in in_left ys (concat ls) x (subst (In x) (sym e) (inl refl))
      there (ys ∷ ls) (suc k) q = in_right ys (concat ls) x (there ls k q)

  pub merged_few_all : (n : ℕ) (ls : List (List A)) (y : A) → In y (merged_few lt n ls) → In y (concat ls)
  unfolding merged_few
  merged_few_all zero ls y i = absurd i
  merged_few_all (suc n) ls y i = go (least_from lt None 0 ls) (found None 0 ls) i (λ k j. merged_few_all n (without ls k) y j)
    where
      there : (ls : List (List A)) (k : ℕ) (x : A) (xs : List A) → slice_get ls k ≡ Some (x ∷ xs) → In x (concat ls)
      there [] k x xs q = absurd (cc (q))
      there (ys ∷ ls) zero x xs q = let e : ys ≡ x ∷ xs = cc (q) in in_left ys (concat ls) x (subst (In x) (sym e) (inl refl))
      there (ys ∷ ls) (suc k) x xs q = in_right ys (concat ls) x (there ls k x xs q)

      go : (r : Option (ℕ × A)) → Found None 0 ls r → In y (found_then r (λ k. merged_few lt n (without ls k))) → ((k : ℕ) → In y (merged_few lt n (without ls k)) → In y (concat (without ls k))) → In y (concat ls)
      go None f j rec = absurd j
      go (Some p) f j rec = ⊎_elim (λ (h : None ≡ Some p). absurd (cc (h)))
          (λ (q : (j : ℕ) × (xs : List A) × (p.0 ≡ 0 + j) × (slice_get ls j ≡ Some (p.1 ∷ xs))). ⊎_elim (λ (e : y ≡ p.1). subst (λ z. In z (concat ls)) (sym e) (there ls q.0 p.1 q.1 q.3)) (λ l. still_in ls p.0 y (rec p.0 l)) j) f.0

  rises_in : (n : ℕ) (ls : List (List A)) → AllRise lt ls → AreApart lt ls → RisesBy lt (merged_few lt n ls)
  unfolding merged_few
  rises_in zero ls r a = tt
  rises_in (suc n) ls r a = go (least_from lt None 0 ls) (found None 0 ls) (λ k. rises_in n (without ls k) (still_rise ls k r) (still_apart ls k a))
    where
      go : (m : Option (ℕ × A)) → Found None 0 ls m → ((k : ℕ) → RisesBy lt (merged_few lt n (without ls k))) → RisesBy lt (found_then m (λ k. merged_few lt n (without ls k)))
      go None f rec = tt
      go (Some p) f rec = ⊎_elim (λ (h : None ≡ Some p). absurd (cc (h)))
          (λ (q : (j : ℕ) × (xs : List A) × (p.0 ≡ 0 + j) × (slice_get ls j ≡ Some (p.1 ∷ xs))).
          let same : p.0 ≡ q.0 = omega (arith, q.2) in
          (λ y i. least_first ls p.0 p.1 q.1 (ap (slice_get ls) same ∙ q.3) f.1 r a y (merged_few_all n (without ls p.0) y i), rec p.0)) f.0

  -- and in order
  pub merged_rises : (ls : List (List A)) → AllRise lt ls → AreApart lt ls → RisesBy lt (merged lt ls)
  unfolding merged
  merged_rises ls r a = rises_in (length (concat ls)) ls r a

  same_first : (x y : A) (xs ys : List A) → RisesBy lt (x ∷ xs) → RisesBy lt (y ∷ ys) → ((z : A) → In z (x ∷ xs) → In z (y ∷ ys)) → ((z : A) → In z (y ∷ ys) → In z (x ∷ xs)) → x ≡ y
  same_first x y xs ys a b f g = ⊎_elim (λ e. e) (λ i. ⊎_elim (λ e. sym e) (λ j. absurd (cc (o.trans x y x (a.0 y j) (b.0 x i), o.irrefl x))) (g y (inl refl))) (f x (inl refl))

  -- a list in order is the only one of its elements
  pub one_order : (xs ys : List A) → RisesBy lt xs → RisesBy lt ys → ((z : A) → In z xs → In z ys) → ((z : A) → In z ys → In z xs) → xs ≡ ys
  one_order [] [] a b f g = refl
  one_order [] (y ∷ ys) a b f g = absurd (g y (inl refl))
  one_order (x ∷ xs) [] a b f g = absurd (f x (inl refl))
  one_order (x ∷ xs) (y ∷ ys) a b f g =
      let e = same_first x y xs ys a b f g in
      λ i. e i ∷ one_order xs ys a.1 b.1
      (λ z j. ⊎_elim (λ (q : z ≡ y). absurd (cc (a.0 z j, ap (λ r. lt x r) (q ∙ sym e), o.irrefl x))) (λ k. k) (f z (inr j)))
      (λ z j. ⊎_elim (λ (q : z ≡ x). absurd (cc (b.0 z j, ap (λ r. lt y r) (q ∙ e), o.irrefl y))) (λ k. k) (g z (inr j))) i

  -- where nothing is left, nothing is given
  pub none_left : (ls : List (List A)) → concat ls ≡ [] → merged lt ls ≡ []
  unfolding merged merged_few
  none_left ls e = rw e refl

  not_before : (x : A) (ls : List (List A)) (k : ℕ) (h : A) (hs : List A) → NoneBefore x ls → slice_get ls k ≡ Some (h ∷ hs) → lt h x ≡ false
  not_before x [] k h hs n at = absurd (cc (at))
  not_before x (xs ∷ ls) zero h hs n at = let e : xs ≡ h ∷ hs = cc (at) in (subst (λ q. NoneBefore x (q ∷ ls)) e n).0
  not_before x ([] ∷ ls) (suc k) h hs n at = not_before x ls k h hs n at
  not_before x ((y ∷ ys) ∷ ls) (suc k) h hs n at = not_before x ls k h hs n.1 at

  -- a first element that is before all others is the least
  pub least_is : (ls : List (List A)) (k : ℕ) (x : A) (xs : List A) → slice_get ls k ≡ Some (x ∷ xs)
      → ((j : ℕ) (y : A) (ys : List A) → slice_get ls j ≡ Some (y ∷ ys) → (j == k) ≡ false → lt x y ≡ true) → least_from lt None 0 ls ≡ Some (k, x)
  least_is ls k x xs at first = go (least_from lt None 0 ls) (found None 0 ls)
    where
      there : (ls : List (List A)) (k : ℕ) → slice_get ls k ≡ Some (x ∷ xs) → In x (concat ls)
      there [] k q = absurd (cc (q))
      there (ys ∷ ls) zero q = let e : ys ≡ x ∷ xs = cc (q) in in_left ys (concat ls) x (subst (In x) (sym e) (inl refl))
      there (ys ∷ ls) (suc k) q = in_right ys (concat ls) x (there ls k q)

      same : (p : ℕ × A) (j : ℕ) (ys : List A) → p.0 ≡ 0 + j → slice_get ls j ≡ Some (p.1 ∷ ys) → NoneBefore p.1 ls → (b : Bool) → (j == k) ≡ b → Some p ≡ Some (k, x)
      same p j ys is found' none true q =
          let e : j ≡ k = eqb-true j k q in
          let y : p.1 ≡ x = cc (sym found' ∙ ap (slice_get ls) e ∙ at) in
          let n : p.0 ≡ k = omega (arith, is, e) in
          (λ i. Some (n i, y i))
      same p j ys is found' none false q = absurd (cc (first j p.1 ys found' q, not_before p.1 ls k x xs none at))

      go : (r : Option (ℕ × A)) → Found None 0 ls r → r ≡ Some (k, x)
      go None f = absurd (subst (In x) f.1 (there ls k at))
      go (Some p) f = ⊎_elim (λ (h : None ≡ Some p). absurd (cc (h)))
          (λ (q : (j : ℕ) × (ys : List A) × (p.0 ≡ 0 + j) × (slice_get ls j ≡ Some (p.1 ∷ ys))). same p q.0 q.1 q.2 q.3 f.1 (q.0 == k) refl) f.0

  -- one step of the walk: what is left begins with the least first element

  pub next_some : (ls : List (List A)) (p : ℕ × A) → least_from lt None 0 ls ≡ Some p → merged lt ls ≡ p.1 ∷ merged lt (without ls p.0)
  unfolding merged merged_few
  next_some ls p e = go (length (concat ls)) refl
    where
      f : Found None 0 ls (Some p)
      f = subst (Found None 0 ls) e (found None 0 ls)

      long : suc (length (concat (without ls p.0))) ≡ length (concat ls)
      long = ⊎_elim (λ (h : None ≡ Some p). absurd (cc (h)))
          (λ (q : (j : ℕ) × (xs : List A) × (p.0 ≡ 0 + j) × (slice_get ls j ≡ Some (p.1 ∷ xs))).
          let same : p.0 ≡ q.0 = omega (arith, q.2) in
          length_permutation (concat ls) (p.1 ∷ concat (without ls p.0)) (taken ls p.0 p.1 q.1 (ap (slice_get ls) same ∙ q.3))) f.0

      go : (n : ℕ) → length (concat ls) ≡ n → merged_few lt n ls ≡ p.1 ∷ merged_few lt (length (concat (without ls p.0))) (without ls p.0)
      go zero is = absurd (omega (arith, is, long))
      go (suc n) is = let k : n ≡ length (concat (without ls p.0)) = omega (arith, is, long) in ap (λ r. found_then r (λ i. merged_few lt n (without ls i))) e ∙ ap (λ j. p.1 ∷ merged_few lt j (without ls p.0)) k
