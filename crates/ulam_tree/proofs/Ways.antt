-- A way through classes need not be longer than there are classes.
use Rattle.std.proofs.Common.{◌≡◌, ℕ, zero, suc, ◌+◌, ◌<◌, ◌≤◌, ◌⊎◌, inl, inr, refl, sym, ap, ◌∙◌, List, [], ◌∷◌, Bool, true, false, ◌||◌, nat_eq, arith}
use Rattle.std.proofs.Math.Bool.{or-true}
use Rattle.std.proofs.lemmas.Bool.{cases_lt, false≢true, eqb-true, eq-eqb}
use Rattle.std.specs.List.{list_any}
use Rattle.list_laws.specs.Booleans.{digit}
use Rattle.ulam_tree.specs.Ways.{leads}

-- how many below k pass a test
pub count : ℕ → (ℕ → Bool) → ℕ
count zero f = 0
count (suc k) f = digit (f k) + count k f

abbrev pub Within : (ℕ → Bool) → (ℕ → Bool) → Type 0
Within f g = (k : ℕ) → f k ≡ true → g k ≡ true

one_small : (b : Bool) → digit b ≤ 1
one_small true = omega arith
one_small false = omega arith

pub count_small : (k : ℕ) (f : ℕ → Bool) → count k f ≤ k
unfolding count
count_small zero f = omega arith
count_small (suc k) f = let a : digit (f k) ≤ 1 = one_small (f k) in let b : count k f ≤ k = count_small k f in omega arith

one_rises : (a b : Bool) → (a ≡ true → b ≡ true) → digit a ≤ digit b
one_rises true b h = rw (h refl) (omega arith)
one_rises false true h = omega arith
one_rises false false h = omega arith

count_rises : (k : ℕ) (f g : ℕ → Bool) → Within f g → count k f ≤ count k g
unfolding count
count_rises zero f g h = omega arith
count_rises (suc k) f g h = let a : digit (f k) ≤ digit (g k) = one_rises (f k) (g k) (h k) in let b : count k f ≤ count k g = count_rises k f g h in omega arith

one_same : (a b : Bool) → (a ≡ true → b ≡ true) → digit b ≤ digit a → b ≡ true → a ≡ true
one_same true b h le e = refl
one_same false true h le e = absurd (omega arith)
one_same false false h le e = e

-- where as many pass, the same pass
same_by : (k : ℕ) (f g : ℕ → Bool) (j : ℕ) → digit (f k) ≤ digit (g k) → digit (g k) ≤ digit (f k) → (f k ≡ true → g k ≡ true) → g j ≡ true → j < suc k → (j < k → f j ≡ true) → (j < k) ⊎ (k ≤ j) → f j ≡ true
same_by k f g j up down h e lt more (inl below) = more below
same_by k f g j up down h e lt more (inr above) =
    let at : j ≡ k = omega arith in
    ap f at ∙ one_same (f k) (g k) h down (sym (ap g at) ∙ e)

pub count_same : (k : ℕ) (f g : ℕ → Bool) → Within f g → count k g ≤ count k f → (j : ℕ) → j < k → g j ≡ true → f j ≡ true
unfolding count
count_same zero f g h le j lt e = absurd (omega arith)
count_same (suc k) f g h le j lt e =
    let rest : count k f ≤ count k g = count_rises k f g h in
    let up : digit (f k) ≤ digit (g k) = one_rises (f k) (g k) (h k) in
    same_by k f g j up (omega (arith, rest, le)) (h k) e lt (λ below. count_same k f g h (omega (arith, up, le)) j below e) (cases_lt j k)

-- d more steps
abbrev on : ℕ → ℕ → ℕ
on zero n = n
on (suc d) n = suc (on d n)

on_is : (d n : ℕ) → on d n ≡ d + n
on_is zero n = omega arith
on_is (suc d) n = let h : on d n ≡ d + n = on_is d n in omega arith

module _ (n : ℕ) (R : ℕ → ℕ → Bool) (rises : (m : ℕ) → Within (R m) (R (suc m))) (stays : (m : ℕ) → Within (R (suc m)) (R m) → Within (R (suc (suc m))) (R (suc m)))
    (inside : (m k : ℕ) → R m k ≡ true → k < n) where
  abbrev Still : ℕ → Type 0
  Still m = Within (R (suc m)) (R m)

  grows_by : (m : ℕ) → (count n (R m) < count n (R (suc m))) ⊎ (count n (R (suc m)) ≤ count n (R m)) → m ≤ count n (R m) → Still m ⊎ (m < count n (R (suc m)))
  grows_by m (inl more) le = inr (omega arith)
  grows_by m (inr same) le = inl (λ k e. count_same n (R m) (R (suc m)) (rises m) same k (inside (suc m) k e) e)

  -- either nothing came in at a step, or one came in at each
  grows : (m : ℕ) → Still m ⊎ (m < count n (R (suc m)))
  grows zero = grows_by 0 (cases_lt (count n (R 0)) (count n (R 1))) (omega arith)
  grows (suc m) = from (grows m)
    where
      from : Still m ⊎ (m < count n (R (suc m))) → Still (suc m) ⊎ (suc m < count n (R (suc (suc m))))
      from (inl still) = inl (stays m still)
      from (inr more) = grows_by (suc m) (cases_lt (count n (R (suc m))) (count n (R (suc (suc m))))) (omega arith)

  still : Still n
  still = by (grows n)
    where
      by : Still n ⊎ (n < count n (R (suc n))) → Still n
      by (inl s) = s
      by (inr more) = let small : count n (R (suc n)) ≤ n = count_small n (R (suc n)) in absurd (omega arith)

  ever : (d : ℕ) → Still (on d n)
  ever zero = still
  ever (suc d) = stays (on d n) (ever d)

  back : (d k : ℕ) → R (on d n) k ≡ true → R n k ≡ true
  back zero k e = e
  back (suc d) k e = back d k (ever d k e)

  up : (d m k : ℕ) → R m k ≡ true → R (on d m) k ≡ true
  up zero m k e = e
  up (suc d) m k e = rises (on d m) k (up d m k e)

  -- what comes in at all, is in after n steps
  pub all_in : (m k : ℕ) → R m k ≡ true → R n k ≡ true
  all_in m k e =
      let same : on n m ≡ on m n = on_is n m ∙ (let c : n + m ≡ m + n = omega arith in c) ∙ sym (on_is m n) in
      back m k (sym (ap (λ z. R z k) same) ∙ up n m k e)

or_within : (a b c d : Bool) → (a ≡ true → b ≡ true) → (c ≡ true → d ≡ true) → (a || c) ≡ true → (b || d) ≡ true
or_within true b c d h k e = rw (h refl) refl
or_within false true c d h k e = refl
or_within false false c d h k e = k e

or_right : (b x y : Bool) → (x ≡ true → y ≡ true) → (b || x) ≡ true → (b || y) ≡ true
or_right true x y h e = refl
or_right false x y h e = h e

any_within : (f g : ℕ → Bool) (ks : List ℕ) → Within f g → list_any f ks ≡ true → list_any g ks ≡ true
any_within f g [] h e = e
any_within f g (k ∷ ks) h e = or_within (f k) (g k) (list_any f ks) (list_any g ks) (h k) (any_within f g ks h) e

-- Ways among n classes, where only these have parts.
module _ (n : ℕ) (parts : ℕ → List ℕ) (few : (k : ℕ) (f : ℕ → Bool) → list_any f (parts k) ≡ true → k < n) where
  step_within : (goal m l : ℕ) → Within (λ j. leads parts m j goal) (λ j. leads parts l j goal) → Within (λ k. leads parts (suc m) k goal) (λ k. leads parts (suc l) k goal)
  unfolding leads
  step_within goal m l h k e = any_within _ _ (parts k) (λ j. or_right (nat_eq j goal) _ _ (h j)) e

  rising : (goal m : ℕ) → Within (λ k. leads parts m k goal) (λ k. leads parts (suc m) k goal)
  unfolding leads
  rising goal zero k e = absurd (false≢true e)
  rising goal (suc m) k e = step_within goal m (suc m) (rising goal m) k e

  -- only a class that has parts leads anywhere
  pub of_class : (goal m k : ℕ) → leads parts m k goal ≡ true → k < n
  unfolding leads
  of_class goal zero k e = absurd (false≢true e)
  of_class goal (suc m) k e = few k (λ j. nat_eq j goal || leads parts m j goal) e

  -- The way from a class to another, however many members it goes through, is found by as many steps as there are classes.
  pub leads_all : (m k goal : ℕ) → leads parts m k goal ≡ true → leads parts n k goal ≡ true
  leads_all m k goal e = all_in n (λ l j. leads parts l j goal) (rising goal) (λ l still. step_within goal (suc l) l still) (of_class goal) m k e

  -- where one more step finds no more, no number of steps does
  pub leads_still : (goal m : ℕ) → Within (λ k. leads parts (suc m) k goal) (λ k. leads parts m k goal) → (d k : ℕ) → leads parts (on d m) k goal ≡ true → leads parts m k goal ≡ true
  leads_still goal m unmoved zero k e = e
  leads_still goal m unmoved (suc d) k e = leads_still goal m unmoved d k (stays d k e)
    where
      stays : (d : ℕ) → Within (λ k. leads parts (suc (on d m)) k goal) (λ k. leads parts (on d m) k goal)
      stays zero = unmoved
      stays (suc d) = step_within goal (suc (on d m)) (on d m) (stays d)

-- where a class has another as a part, it leads there, and to all to which that leads
any_here : (p : ℕ → Bool) (j : ℕ) (ks : List ℕ) → list_any (λ i. nat_eq i j) ks ≡ true → p j ≡ true → list_any p ks ≡ true
any_here p j [] e h = e
any_here p j (k ∷ ks) e h = go (nat_eq k j) refl e (any_here p j ks)
  where
    go : (b : Bool) → nat_eq k j ≡ b → (b || list_any (λ i. nat_eq i j) ks) ≡ true → (list_any (λ i. nat_eq i j) ks ≡ true → p j ≡ true → list_any p ks ≡ true) → (p k || list_any p ks) ≡ true
    go true is e rest = let same : p k ≡ true = ap p (eqb-true k j is) ∙ h in rw same refl
    go false is e rest = let more : list_any p ks ≡ true = rest e h in rw more (or-true (p k))

module _ (n : ℕ) (parts : ℕ → List ℕ) (few : (k : ℕ) (f : ℕ → Bool) → list_any f (parts k) ≡ true → k < n) where
  pub leads_part : (k j : ℕ) → list_any (λ i. nat_eq i j) (parts k) ≡ true → leads parts n k j ≡ true
  unfolding leads
  leads_part k j e = leads_all n parts few 1 k j (first k j e)
    where
      first : (k j : ℕ) → list_any (λ i. nat_eq i j) (parts k) ≡ true → leads parts 1 k j ≡ true
      first k j e = any_here (λ i. nat_eq i j || false) j (parts k) e (rw (eq-eqb j j refl) refl)

  pub leads_through : (k j goal : ℕ) → list_any (λ i. nat_eq i j) (parts k) ≡ true → leads parts n j goal ≡ true → leads parts n k goal ≡ true
  unfolding leads
  leads_through k j goal e h = leads_all n parts few (suc n) k goal (first k j goal e h)
    where
      first : (k j goal : ℕ) → list_any (λ i. nat_eq i j) (parts k) ≡ true → leads parts n j goal ≡ true → leads parts (suc n) k goal ≡ true
      first k j goal e h = any_here (λ i. nat_eq i goal || leads parts n i goal) j (parts k) e (rw h (or-true (nat_eq j goal)))

-- Where no class contains itself, a class leads to fewer than one of which it is a part.
module _ (n : ℕ) (parts : ℕ → List ℕ) (few : (k : ℕ) (f : ℕ → Bool) → list_any f (parts k) ≡ true → k < n) (apart : (m k : ℕ) → leads parts m k k ≡ false) where
  pub rank : ℕ → ℕ
  rank k = count n (λ j. leads parts n k j)

  pub rank_part : (k j : ℕ) → list_any (λ i. nat_eq i j) (parts k) ≡ true → j < n → rank j < rank k
  unfolding rank
  rank_part k j e lt = go (cases_lt (count n (λ i. leads parts n j i)) (count n (λ i. leads parts n k i)))
    where
      go : (count n (λ i. leads parts n j i) < count n (λ i. leads parts n k i)) ⊎ (count n (λ i. leads parts n k i) ≤ count n (λ i. leads parts n j i)) → count n (λ i. leads parts n j i) < count n (λ i. leads parts n k i)
      go (inl less) = less
      go (inr same) =
          let round : leads parts n j j ≡ true = count_same n (λ i. leads parts n j i) (λ i. leads parts n k i) (λ i h. leads_through n parts few k j i e h) same j lt (leads_part n parts few k j e) in
          absurd (false≢true (sym (apart n j) ∙ round))

  pub rank_small : (k : ℕ) → k < n → rank k < n
  unfolding rank
  rank_small k lt = go (cases_lt (count n (λ i. leads parts n k i)) n)
    where
      go : (count n (λ i. leads parts n k i) < n) ⊎ (n ≤ count n (λ i. leads parts n k i)) → count n (λ i. leads parts n k i) < n
      go (inl less) = less
      go (inr all) =
          let most : count n (λ i. true) ≤ n = count_small n (λ i. true) in
          let round : leads parts n k k ≡ true = count_same n (λ i. leads parts n k i) (λ i. true) (λ i h. refl) (omega (arith, most, all)) k lt refl in
          absurd (false≢true (sym (apart n k) ∙ round))
