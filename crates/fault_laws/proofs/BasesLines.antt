-- Names of bases, and where bases lead.
use Rattle.std.proofs.Common.{◌≡◌, ◌≢◌, ℕ, zero, suc, ◌+◌, ◌<◌, ◌≤◌, ◌⊎◌, inl, inr, refl, sym, ap, ◌∙◌, subst, List, [], ◌∷◌, ◌++◌, length, Bool, true, false, ◌||◌, cond, Option, Some, None, nat_eq, arith, Contains, slice_get, bytes_eq}
use Rattle.std.specs.List.{list_any}
use Rattle.std.specs.Option.{option_map_or, option_and_then, option_to_list}
use Rattle.std.proofs.lemmas.Bool.{false≢true, true≢false, eqb-true}
use Rattle.std.proofs.lemmas.Option.{same_Some, none-some}
use Rattle.std.proofs.lemmas.Slice.Eq.{bytes_eq-Decides}
use Rattle.std.proofs.lemmas.List.Elements.{Contains-append_right, Contains-append_cases}
use Rattle.ulam_tree.specs.Raw.{Word}
use Rattle.ulam_tree.specs.Ways.{leads}
use Rattle.ulam_heirs.specs.Lines.{Heir, class_named, base_number, base_of, base_list, upward}
use Rattle.fault_laws.specs.Bases.{Means, IsBase, LeadsTo, straight, through}

-- Lists

pub in_first : {A : Type 0} (x : A) (xs : List A) → Contains (x ∷ xs) x
in_first x xs = (0, omega arith, refl)

pub in_more : {A : Type 0} (y : A) (xs : List A) (x : A) → Contains xs x → Contains (y ∷ xs) x
in_more y xs x h = Contains-append_right (y ∷ []) xs x h

pub in_none : {A : Type 0} (x : A) → Contains [] x → ⊥
in_none x h = let lt = h.1 in omega arith

pub in_cons : {A : Type 0} (y : A) (xs : List A) (x : A) → Contains (y ∷ xs) x → (y ≡ x) ⊎ Contains xs x
in_cons y xs x (zero, lt, is) = inl is
in_cons y xs x (suc k, lt, is) = inr (k, omega arith, is)

-- one that passes a test, where some do
pub any_in : {A : Type 0} (p : A → Bool) (xs : List A) → list_any p xs ≡ true → (x : A) × Contains xs x × (p x ≡ true)
any_in p [] e = absurd (false≢true e)
any_in {A = A} p (x ∷ xs) e = go (p x) refl e (any_in p xs)
  where
    go : (b : Bool) → p x ≡ b → (b || list_any p xs) ≡ true → (list_any p xs ≡ true → (y : A) × Contains xs y × (p y ≡ true)) → (y : A) × Contains (x ∷ xs) y × (p y ≡ true)
    go true is h rest = (x, in_first x xs, is)
    go false is h rest = let found = rest h in (found.0, in_more x xs found.0 found.1, found.2)

-- Names

-- what is known of the class that a name finds: its number among these, the class, and that none of them before it has the name
record Found (hs : List Heir) (name : List ℕ) (i : ℕ) : Type 0 where
  heir : Heir
  is : slice_get hs i ≡ Some heir
  named : heir.class.word.name ≡ name
  first : (j : ℕ) (other : Heir) → j < i → slice_get hs j ≡ Some other → other.class.word.name ≢ name

one_more : (h : Heir) (hs : List Heir) (name : List ℕ) (i : ℕ) → h.class.word.name ≢ name → Found hs name i → Found (h ∷ hs) name (suc i)
one_more h hs name i other f = record { heir = f.heir; is = f.is; named = f.named; first = before }
  where
    before : (j : ℕ) (o : Heir) → j < suc i → slice_get (h ∷ hs) j ≡ Some o → o.class.word.name ≢ name
    before zero o lt e same = other (ap (λ (x : Heir). x.class.word.name) (same_Some h o e) ∙ same)
    before (suc j) o lt e same = f.first j o (omega arith) e same

class_found : (n : ℕ) (name : List ℕ) (hs : List Heir) (k : ℕ) → class_named n name hs ≡ Some k → (i : ℕ) × (k ≡ n + i) × Found hs name i
class_found n name [] k e = absurd (none-some k e)
class_found n name (h ∷ hs) k e = go (bytes_eq h.class.word.name name) refl e (class_found (n + 1) name hs k)
  where
    go : (b : Bool) → bytes_eq h.class.word.name name ≡ b → cond b (Some n) (class_named (n + 1) name hs) ≡ Some k → (class_named (n + 1) name hs ≡ Some k → (i : ℕ) × (k ≡ n + 1 + i) × Found hs name i) →
        (i : ℕ) × (k ≡ n + i) × Found (h ∷ hs) name i
    go true is found rest =
        let at : n ≡ k = same_Some n k found in
        (0, omega arith, record { heir = h; is = refl; named = (bytes_eq-Decides h.class.word.name name).0 is; first = λ j o lt e. absurd (omega arith) })
    go false is found rest =
        let r = rest found in
        let at = r.1 in
        (suc r.0, omega arith, one_more h hs name r.0 (λ same. false≢true (sym is ∙ (bytes_eq-Decides h.class.word.name name).1 same)) r.2)

-- the number that a name finds is of the class that it means
pub named_means : (name : List ℕ) (hs : List Heir) (k : ℕ) → class_named 0 name hs ≡ Some k → Means hs name k
named_means name hs k e =
    let r = class_found 0 name hs k e in
    let at = r.1 in
    let f = r.2 in
    let same : r.0 ≡ k = omega arith in
    subst (Means hs name) same (record { heir = f.heir; is = f.is; named = f.named; first = f.first })

-- and a name finds the class that it means
pub means_named : (n : ℕ) (name : List ℕ) (hs : List Heir) (i : ℕ) (m : Means hs name i) → class_named n name hs ≡ Some (n + i)
means_named n name [] i m = absurd (none-some m.heir m.is)
means_named n name (h ∷ hs) zero m = go (bytes_eq h.class.word.name name) refl
  where
    same : h.class.word.name ≡ name
    same = ap (λ (x : Heir). x.class.word.name) (same_Some h m.heir m.is) ∙ m.named

    go : (b : Bool) → bytes_eq h.class.word.name name ≡ b → cond b (Some n) (class_named (n + 1) name hs) ≡ Some (n + 0)
    go true is = let at : n ≡ n + 0 = omega arith in ap Some at
    go false is = absurd (false≢true (sym is ∙ (bytes_eq-Decides h.class.word.name name).1 same))
means_named n name (h ∷ hs) (suc i) m = go (bytes_eq h.class.word.name name) refl (means_named (n + 1) name hs i rest)
  where
    rest : Means hs name i
    rest = record { heir = m.heir; is = m.is; named = m.named; first = λ j o lt e. m.first (suc j) o (omega arith) e }

    go : (b : Bool) → bytes_eq h.class.word.name name ≡ b → class_named (n + 1) name hs ≡ Some (n + 1 + i) → cond b (Some n) (class_named (n + 1) name hs) ≡ Some (n + suc i)
    go true is e = absurd (m.first 0 h (omega arith) refl ((bytes_eq-Decides h.class.word.name name).0 is))
    go false is e = let at : n + 1 + i ≡ n + suc i = omega arith in e ∙ ap Some at

-- Bases

pub base_is : (hs : List Heir) (k j : ℕ) → base_of hs k ≡ Some j → IsBase hs k j
base_is hs k j e = at (slice_get hs k) refl e
  where
    by : (h : Heir) → slice_get hs k ≡ Some h → (o : Option Word) → h.base ≡ o → option_and_then (λ (w : Word). class_named 0 w.name hs) o ≡ Some j → IsBase hs k j
    by h is None says e = absurd (none-some j e)
    by h is (Some w) says e = record { heir = h; base = w; is = is; says = says; means = named_means w.name hs j e }

    at : (o : Option Heir) → slice_get hs k ≡ o → option_and_then (base_number hs) o ≡ Some j → IsBase hs k j
    at None is e = absurd (none-some j e)
    at (Some h) is e = by h is h.base refl e

pub leads_to : (hs : List Heir) (m k j : ℕ) → leads (base_list hs) m k j ≡ true → LeadsTo hs k j
unfolding leads
leads_to hs zero k j e = absurd (false≢true e)
leads_to hs (suc m) k j e = by (base_of hs k) refl e (λ i. leads_to hs m i j)
  where
    on : (i : ℕ) → IsBase hs k i → (b : Bool) → nat_eq i j ≡ b → ((b || leads (base_list hs) m i j) || false) ≡ true → (leads (base_list hs) m i j ≡ true → LeadsTo hs i j) → LeadsTo hs k j
    on i is true same h up = subst (LeadsTo hs k) (eqb-true i j same) (straight k i is)
    on i is false other h up = through k i j is (up (or_no (leads (base_list hs) m i j) h))
      where
        or_no : (a : Bool) → (a || false) ≡ true → a ≡ true
        or_no true h = refl
        or_no false h = h

    by : (o : Option ℕ) → base_of hs k ≡ o → list_any (λ i. nat_eq i j || leads (base_list hs) m i j) (option_to_list o) ≡ true → ((i : ℕ) → leads (base_list hs) m i j ≡ true → LeadsTo hs i j) → LeadsTo hs k j
    by None is h up = absurd (false≢true h)
    by (Some i) is h up = on i (base_is hs k i is) (nat_eq i j) refl h (up i)

-- all above a class in its line are its bases
pub upward_to : (hs : List Heir) (n k j : ℕ) → Contains (upward n (base_of hs) k) j → (k ≡ j) ⊎ LeadsTo hs k j
unfolding upward
upward_to hs zero k j h = absurd (in_none j h)
upward_to hs (suc n) k j h = go (in_cons k (option_map_or (upward n (base_of hs)) (base_of hs k) []) j h) (λ i. upward_to hs n i j)
  where
    on : (i : ℕ) → IsBase hs k i → (i ≡ j) ⊎ LeadsTo hs i j → LeadsTo hs k j
    on i is (inl same) = subst (LeadsTo hs k) same (straight k i is)
    on i is (inr more) = through k i j is more

    by : (o : Option ℕ) → base_of hs k ≡ o → Contains (option_map_or (upward n (base_of hs)) o []) j → ((i : ℕ) → Contains (upward n (base_of hs) i) j → (i ≡ j) ⊎ LeadsTo hs i j) → LeadsTo hs k j
    by None is h up = absurd (in_none j h)
    by (Some i) is h up = on i (base_is hs k i is) (up i h)

    go : (k ≡ j) ⊎ Contains (option_map_or (upward n (base_of hs)) (base_of hs k) []) j → ((i : ℕ) → Contains (upward n (base_of hs) i) j → (i ≡ j) ⊎ LeadsTo hs i j) → (k ≡ j) ⊎ LeadsTo hs k j
    go (inl same) up = inl same
    go (inr more) up = inr (by (base_of hs k) refl more up)

-- those behind a class on the way up are its bases
pub upward_behind : (hs : List Heir) (n k : ℕ) (front : List ℕ) (i : ℕ) (back : List ℕ) (j : ℕ) → upward n (base_of hs) k ≡ front ++ (i ∷ back) → Contains back j → LeadsTo hs i j
unfolding upward
upward_behind hs zero k [] i back j e h = absurd cc
upward_behind hs zero k (x ∷ front) i back j e h = absurd cc
upward_behind hs (suc n) k [] i back j e h = go (by (base_of hs k) refl (subst (λ xs. Contains xs j) (sym tail) h))
  where
    same : k ≡ i
    same = cc

    tail : option_map_or (upward n (base_of hs)) (base_of hs k) [] ≡ back
    tail = cc

    go : LeadsTo hs k j → LeadsTo hs i j
    go l = subst (λ x. LeadsTo hs x j) same l

    on : (b : ℕ) → IsBase hs k b → (b ≡ j) ⊎ LeadsTo hs b j → LeadsTo hs k j
    on b is (inl at) = subst (LeadsTo hs k) at (straight k b is)
    on b is (inr more) = through k b j is more

    by : (o : Option ℕ) → base_of hs k ≡ o → Contains (option_map_or (upward n (base_of hs)) o []) j → LeadsTo hs k j
    by None is h = absurd (in_none j h)
    by (Some b) is h = on b (base_is hs k b is) (upward_to hs n b j h)
upward_behind hs (suc n) k (x ∷ front) i back j e h = by (base_of hs k) tail (λ b is. upward_behind hs n b front i back j is h)
  where
    tail : option_map_or (upward n (base_of hs)) (base_of hs k) [] ≡ front ++ (i ∷ back)
    tail = cc

    none : (xs : List ℕ) → [] ≡ xs ++ (i ∷ back) → ⊥
    none [] e = cc
    none (x ∷ xs) e = cc

    by : (o : Option ℕ) → option_map_or (upward n (base_of hs)) o [] ≡ front ++ (i ∷ back) → ((b : ℕ) → upward n (base_of hs) b ≡ front ++ (i ∷ back) → LeadsTo hs i j) → LeadsTo hs i j
    by None e up = absurd (none front e)
    by (Some b) e up = up b e
