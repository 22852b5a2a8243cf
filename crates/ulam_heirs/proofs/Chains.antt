-- The line of a class is the line of its base, and then the class.
use Rattle.std.proofs.Common.{◌≡◌, ℕ, zero, suc, ◌+◌, ◌<◌, ◌≤◌, ◌⊎◌, inl, inr, refl, sym, ap, ◌∙◌, List, [], ◌∷◌, ◌++◌, length, Bool, true, false, ◌||◌, cond, Option, Some, None, nat_eq, arith, append_assoc}
use Rattle.std.specs.Prelude.{reverse, slice_get, bytes_eq}
use Rattle.std.specs.List.{list_any}
use Rattle.std.specs.Option.{option_map_or, option_and_then, option_or, option_to_list}
use Rattle.std.proofs.lemmas.Bool.{false≢true, false_from_ne_true, cases_lt, eqb-true, eq-eqb}
use Rattle.std.proofs.lemmas.List.{reverse-append}
use Rattle.ulam_tree.specs.Raw.{Word}
use Rattle.ulam_tree.specs.Ways.{leads}
use Rattle.ulam_tree.proofs.Ways.{leads_all, of_class, rank, rank_part, rank_small}
use Rattle.ulam_heirs.specs.declared.fault.HeirsFault.{HeirsFault}
use Rattle.ulam_heirs.specs.declared.fault.HeirsFault.TheVariants.{OwnBase}
use Rattle.ulam_heirs.specs.Lines.{Heir, class_named, base_number, base_of, base_list, is_own_base, NoneIsOwnBase, upward, line_numbers}
use Rattle.ulam_heirs.specs.Faults.{not_quark, own_base, bad_override, first_by, first_fault}

-- only a class that there is has a base
base_below : (g : Heir → Option ℕ) (f : ℕ → Bool) (hs : List Heir) (k : ℕ) → list_any f (option_to_list (option_and_then g (slice_get hs k))) ≡ true → k < length hs
base_below g f [] zero e = absurd (false≢true e)
base_below g f [] (suc k) e = absurd (false≢true e)
base_below g f (h ∷ hs) zero e = omega arith
base_below g f (h ∷ hs) (suc k) e = let lt : k < length hs = base_below g f hs k e in omega (arith, lt)

pub few : (hs : List Heir) (k : ℕ) (f : ℕ → Bool) → list_any f (base_list hs k) ≡ true → k < length hs
few hs k f e = base_below (base_number hs) f hs k e

named_below : (n : ℕ) (name : List ℕ) (hs : List Heir) (j : ℕ) → class_named n name hs ≡ Some j → j < n + length hs
named_below n name [] j e = let q : None ≡ Some j = e in absurd cc
named_below n name (h ∷ hs) j e = go (bytes_eq h.class.word.name name) e (named_below (n + 1) name hs j)
  where
    go : (b : Bool) → cond b (Some n) (class_named (n + 1) name hs) ≡ Some j → (class_named (n + 1) name hs ≡ Some j → j < n + 1 + length hs) → j < n + suc (length hs)
    go true is rest = let q : Some n ≡ Some j = is in let same : n ≡ j = cc in omega (arith, same)
    go false is rest = let lt : j < n + 1 + length hs = rest is in omega (arith, lt)

-- a base is a class
pub base_within : (hs : List Heir) (k j : ℕ) → base_of hs k ≡ Some j → j < length hs
base_within hs k j e = at (slice_get hs k) e
  where
    by : (o : Option Word) → option_and_then (λ (w : Word). class_named 0 w.name hs) o ≡ Some j → j < length hs
    by None h = let q : None ≡ Some j = h in absurd cc
    by (Some w) h = let lt : j < 0 + length hs = named_below 0 w.name hs j h in omega (arith, lt)

    at : (o : Option Heir) → option_and_then (base_number hs) o ≡ Some j → j < length hs
    at None h = let q : None ≡ Some j = h in absurd cc
    at (Some h) f = by h.base f

pub own_all : (hs : List Heir) (m k : ℕ) → leads (base_list hs) m k k ≡ true → is_own_base hs k ≡ true
own_all hs m k e = leads_all (length hs) (base_list hs) (few hs) m k k e

apart_all : (hs : List Heir) → NoneIsOwnBase hs → (m k : ℕ) → leads (base_list hs) m k k ≡ false
apart_all hs apart m k = false_from_ne_true _ (λ e. false≢true (sym (apart k) ∙ own_all hs m k e))

-- a base of a class is one step away
base_part : (hs : List Heir) (k j : ℕ) → base_of hs k ≡ Some j → list_any (λ i. nat_eq i j) (base_list hs k) ≡ true
base_part hs k j e = ap (λ o. list_any (λ i. nat_eq i j) (option_to_list o)) e ∙ ap (λ (b : Bool). b || false) (eq-eqb j j refl)

-- How far up a class stands.
module _ (hs : List Heir) (apart : NoneIsOwnBase hs) where
  height : ℕ → ℕ
  height k = rank (length hs) (base_list hs) (few hs) (apart_all hs apart) k

  falls : (k j : ℕ) → base_of hs k ≡ Some j → height j < height k
  unfolding height
  falls k j e = rank_part (length hs) (base_list hs) (few hs) (apart_all hs apart) k j (base_part hs k j e) (base_within hs k j e)

  low : (k : ℕ) → k < length hs → height k < length hs
  unfolding height
  low k lt = rank_small (length hs) (base_list hs) (few hs) (apart_all hs apart) k lt

  -- as many steps as it stands high are enough
  enough : (m k : ℕ) → height k < m → upward m (base_of hs) k ≡ upward (suc m) (base_of hs) k
  unfolding upward
  enough zero k lt = absurd (omega (arith, lt))
  enough (suc m) k lt = ap (λ xs. k ∷ xs) (by (base_of hs k) refl (enough m))
    where
      by : (o : Option ℕ) → base_of hs k ≡ o → ((j : ℕ) → height j < m → upward m (base_of hs) j ≡ upward (suc m) (base_of hs) j) → option_map_or (upward m (base_of hs)) o [] ≡ option_map_or (upward (suc m) (base_of hs)) o []
      by None e rest = refl
      by (Some j) e rest = let less : height j < height k = falls k j e in rest j (omega (arith, less, lt))

  -- a class, and then what stands above its base
  up_is : (n k : ℕ) → height k < n → upward n (base_of hs) k ≡ k ∷ option_map_or (upward n (base_of hs)) (base_of hs k) []
  unfolding upward
  up_is zero k lt = absurd (omega (arith, lt))
  up_is (suc m) k lt = ap (λ xs. k ∷ xs) (by (base_of hs k) refl)
    where
      by : (o : Option ℕ) → base_of hs k ≡ o → option_map_or (upward m (base_of hs)) o [] ≡ option_map_or (upward (suc m) (base_of hs)) o []
      by None e = refl
      by (Some j) e = let less : height j < height k = falls k j e in enough m j (omega (arith, less, lt))

  turned : (n k : ℕ) (o : Option ℕ) → reverse (k ∷ option_map_or (upward n (base_of hs)) o []) ≡ option_map_or (λ j. reverse (upward n (base_of hs) j)) o [] ++ (k ∷ [])
  turned n k None = refl
  turned n k (Some j) = reverse-append (k ∷ []) (upward n (base_of hs) j)

  pub line_is : (k : ℕ) → k < length hs → line_numbers hs k ≡ option_map_or (line_numbers hs) (base_of hs k) [] ++ (k ∷ [])
  line_is k lt = ap reverse (up_is (length hs) k (low k lt)) ∙ turned (length hs) k (base_of hs k)

  -- the line of a class begins with that of each of its bases
  pub line_front : (m k j : ℕ) → leads (base_list hs) m k j ≡ true → (rest : List ℕ) × (line_numbers hs k ≡ line_numbers hs j ++ rest)
  unfolding leads
  line_front zero k j e = absurd (false≢true e)
  line_front (suc m) k j e = by (base_of hs k) refl e (λ i. line_front m i j)
    where
      one : (i : ℕ) → base_of hs k ≡ Some i → line_numbers hs k ≡ line_numbers hs i ++ (k ∷ [])
      one i is = line_is k (few hs k (λ x. nat_eq x i) (base_part hs k i is)) ∙ ap (λ o. option_map_or (line_numbers hs) o [] ++ (k ∷ [])) is

      on : (i : ℕ) → base_of hs k ≡ Some i → (b : Bool) → nat_eq i j ≡ b → (b || leads (base_list hs) m i j) ≡ true → (leads (base_list hs) m i j ≡ true → (rest : List ℕ) × (line_numbers hs i ≡ line_numbers hs j ++ rest)) →
          (rest : List ℕ) × (line_numbers hs k ≡ line_numbers hs j ++ rest)
      on i is true same h up = (k ∷ [], one i is ∙ ap (λ x. line_numbers hs x ++ (k ∷ [])) (eqb-true i j same))
      on i is false other h up = let above = up h in (above.0 ++ (k ∷ []), one i is ∙ ap (λ xs. xs ++ (k ∷ [])) above.1 ∙ append_assoc (line_numbers hs j) above.0 (k ∷ []))

      or_no : (a : Bool) → (a || false) ≡ true → a ≡ true
      or_no true h = refl
      or_no false h = h

      by : (o : Option ℕ) → base_of hs k ≡ o → list_any (λ i. nat_eq i j || leads (base_list hs) m i j) (option_to_list o) ≡ true → ((i : ℕ) → leads (base_list hs) m i j ≡ true → (rest : List ℕ) × (line_numbers hs i ≡ line_numbers hs j ++ rest)) →
          (rest : List ℕ) × (line_numbers hs k ≡ line_numbers hs j ++ rest)
      by None is h up = absurd (false≢true h)
      by (Some i) is h up = on i is (nat_eq i j) refl (or_no (nat_eq i j || leads (base_list hs) m i j) h) (up i)

-- where there is no first fault, no class is its own base
none_or : (a b : Option HeirsFault) → option_or a b ≡ None → (a ≡ None) × (b ≡ None)
none_or None b e = (refl, e)
none_or (Some x) b e = let q : Some x ≡ None = e in absurd cc

own_none : (hs : List Heir) (n : ℕ) (xs : List Heir) (i : ℕ) → first_by (own_base hs) n xs ≡ None → i < length xs → is_own_base hs (n + i) ≡ false
own_none hs n [] i e lt = absurd (omega (arith, lt))
own_none hs n (x ∷ xs) zero e lt =
    let same : n + 0 ≡ n = omega arith in
    ap (is_own_base hs) same ∙ go (is_own_base hs n) (none_or _ (first_by (own_base hs) (n + 1) xs) e).0
  where
    go : (b : Bool) → cond b (Some (OwnBase x.class.word.place)) None ≡ None → b ≡ false
    go true h = let q : Some (OwnBase x.class.word.place) ≡ None = h in absurd cc
    go false h = refl
own_none hs n (x ∷ xs) (suc i) e lt =
    let same : n + suc i ≡ n + 1 + i = omega arith in
    ap (is_own_base hs) same ∙ own_none hs (n + 1) xs i (none_or (own_base hs n x) (first_by (own_base hs) (n + 1) xs) e).1 (omega (arith, lt))

pub apart_from : (hs : List Heir) → first_by (own_base hs) 0 hs ≡ None → NoneIsOwnBase hs
apart_from hs rest k = go (cases_lt k (length hs))
  where
    go : (k < length hs) ⊎ (length hs ≤ k) → is_own_base hs k ≡ false
    go (inl lt) = let same : k ≡ 0 + k = omega arith in ap (is_own_base hs) same ∙ own_none hs 0 hs k rest lt
    go (inr le) = false_from_ne_true _ (λ h. let lt : k < length hs = of_class (length hs) (base_list hs) (few hs) k (length hs) k h in absurd (omega (arith, lt, le)))

pub none_own : (hs : List Heir) → first_fault hs ≡ None → NoneIsOwnBase hs
none_own hs e =
    apart_from hs (none_or (first_by (own_base hs) 0 hs) (first_by (bad_override hs) 0 hs) (none_or (first_by (not_quark hs) 0 hs) (option_or (first_by (own_base hs) 0 hs) (first_by (bad_override hs) 0 hs)) e).1).0
