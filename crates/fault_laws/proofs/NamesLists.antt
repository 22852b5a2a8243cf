-- Names in lists, and entries of lists.
use Rattle.std.proofs.Common.{◌≡◌, ℕ, zero, suc, ◌<◌, ◌≤◌, ◌⊎◌, inl, inr, ⊎_elim, refl, sym, ap, ◌∙◌, subst, List, [], ◌∷◌, ◌++◌, length, reverse, Bool, true, false, not, ◌||◌, cond, Some, None, append_assoc, nat_lt}
use Rattle.std.specs.Prelude.{Contains, slice_get, find, option_map, bytes_eq}
use Rattle.std.specs.List.{list_any}
use Rattle.std.proofs.lemmas.Bool.{false≢true, lt-ltb, cases_lt}
use Rattle.std.proofs.lemmas.List.{reverse-append}
use Rattle.std.proofs.lemmas.Slice.Eq.{bytes_eq-Decides}
use Rattle.list_laws.proofs.Members.{In, in_left, in_right, in_either, contains_in, in_contains, in_any}
use Rattle.ulam_names.specs.Scopes.{Text, is_among, names_of, beside}
use Rattle.fault_laws.specs.NamesText.{EntryOf, Lacks}
use Rattle.fault_laws.proofs.BasesLines.{any_in}

-- Tests

pub same_text : (a b : Text) → bytes_eq a b ≡ true → a ≡ b
same_text a b e = (bytes_eq-Decides a b).0 e

pub own_text : (a : Text) → bytes_eq a a ≡ true
own_text a = (bytes_eq-Decides a a).1 refl

-- Elements that pass a test

pub found_in : {A : Type 0} (p : A → Bool) (xs : List A) (x : A) → find p xs ≡ Some x → In x xs × (p x ≡ true)
found_in p [] x e = absurd cc
found_in p (y ∷ xs) x e = go (p y) refl e (found_in p xs x)
  where
    go : (b : Bool) → p y ≡ b → cond b (Some y) (find p xs) ≡ Some x → (find p xs ≡ Some x → In x xs × (p x ≡ true)) → In x (y ∷ xs) × (p x ≡ true)
    go true is e rest = let same : y ≡ x = cc in (inl (sym same), ap p (sym same) ∙ is)
    go false is e rest = let r = rest e in (inr r.0, r.1)

pub none_found : {A : Type 0} (p : A → Bool) (xs : List A) (x : A) → find p xs ≡ None → In x xs → p x ≡ false
none_found p [] x e i = absurd i
none_found p (y ∷ xs) x e i = go (p y) refl e i (none_found p xs x)
  where
    go : (b : Bool) → p y ≡ b → cond b (Some y) (find p xs) ≡ None → In x (y ∷ xs) → (find p xs ≡ None → In x xs → p x ≡ false) → p x ≡ false
    go true is e i rest = absurd cc
    go false is e i rest = ⊎_elim {C = p x ≡ false} (λ (same : x ≡ y). ap p same ∙ is) (λ j. rest e j) i

pub in_reverse : {A : Type 0} (xs : List A) (x : A) → In x xs → In x (reverse xs)
in_reverse [] x i = absurd i
in_reverse (y ∷ xs) x i =
    subst (In x) (sym (reverse-append (y ∷ []) xs))
    (⊎_elim {C = In x (reverse xs ++ reverse (y ∷ []))} (λ (same : x ≡ y). in_right (reverse xs) (reverse (y ∷ [])) x (inl same)) (λ j. in_left (reverse xs) (reverse (y ∷ [])) x (in_reverse xs x j)) i)

pub reverse_in : {A : Type 0} (xs : List A) (x : A) → In x (reverse xs) → In x xs
reverse_in [] x i = absurd i
reverse_in (y ∷ xs) x i =
    ⊎_elim {C = In x (y ∷ xs)} (λ (j : In x (reverse xs)). inr (reverse_in xs x j)) (λ (j : In x (y ∷ [])). ⊎_elim {C = In x (y ∷ xs)} (λ (same : x ≡ y). inl same) (λ k. absurd k) j)
    (in_either (reverse xs) (y ∷ []) x (subst (In x) (reverse-append (y ∷ []) xs) i))

-- Names

pub among_in : (n : Text) (ns : List Text) → is_among n ns ≡ true → Contains ns n
among_in n ns e =
    let r = any_in (bytes_eq n) ns e in
    subst (λ m. Contains ns m) (sym (same_text n r.0 r.2)) r.1

pub in_among : (n : Text) (ns : List Text) → Contains ns n → is_among n ns ≡ true
in_among n ns c = in_any (bytes_eq n) ns n (contains_in ns n c) (own_text n)

pub not_among : (n : Text) (ns : List Text) → is_among n ns ≡ false → Lacks ns n
not_among n ns e c = false≢true (sym e ∙ in_among n ns c)

pub lacks_both : (xs ys : List Text) (n : Text) → Lacks xs n → Lacks ys n → Lacks (xs ++ ys) n
lacks_both xs ys n h k c = ⊎_elim {C = ⊥} (λ i. h (in_contains xs n i)) (λ i. k (in_contains ys n i)) (in_either xs ys n (contains_in (xs ++ ys) n c))

pub contains_left : (xs ys : List Text) (n : Text) → Contains xs n → Contains (xs ++ ys) n
contains_left xs ys n c = in_contains (xs ++ ys) n (in_left xs ys n (contains_in xs n c))

pub contains_right : (xs ys : List Text) (n : Text) → Contains ys n → Contains (xs ++ ys) n
contains_right xs ys n c = in_contains (xs ++ ys) n (in_right xs ys n (contains_in ys n c))

pub nothing_beside : {A : Type 0} (n : Text) (ps : List (Text × A)) → beside n ps ≡ None → is_among n (names_of ps) ≡ false
nothing_beside n [] e = refl
nothing_beside {A = A} n (p ∷ ps) e = go (bytes_eq n p.0) e (nothing_beside n ps)
  where
    go : (b : Bool) → option_map (λ (q : Text × A). q.1) (cond b (Some p) (find (λ (q : Text × A). bytes_eq n q.0) ps)) ≡ None → (beside n ps ≡ None → is_among n (names_of ps) ≡ false) → (b || is_among n (names_of ps)) ≡ false
    go true e rest = absurd cc
    go false e rest = rest e

-- Entries

pub entry_of : {A : Type 0} (xs : List A) (x : A) → In x xs → (at : EntryOf A xs) × (at.here ≡ x)
entry_of [] x i = absurd i
entry_of {A = A} (y ∷ xs) x i =
    ⊎_elim {C = (at : EntryOf A (y ∷ xs)) × (at.here ≡ x)} (λ (same : x ≡ y). (record { before = []; here = y; behind = xs; is = refl }, sym same))
    (λ j. let r = entry_of xs x j in (record { before = y ∷ r.0.before; here = r.0.here; behind = r.0.behind; is = ap (λ zs. y ∷ zs) r.0.is }, r.1)) i

pub slice_behind : {A : Type 0} (xs : List A) (x : A) (ys : List A) → slice_get (xs ++ x ∷ ys) (length xs) ≡ Some x
slice_behind [] x ys = refl
slice_behind (z ∷ xs) x ys = slice_behind xs x ys

pub one_more : {A : Type 0} (xs : List A) (x : A) (ys : List A) → xs ++ x ∷ ys ≡ (xs ++ x ∷ []) ++ ys
one_more xs x ys = sym (append_assoc xs (x ∷ []) ys)

pub in_middle : {A : Type 0} (xs : List A) (x : A) (ys : List A) → In x (xs ++ x ∷ ys)
in_middle xs x ys = in_right xs (x ∷ ys) x (inl refl)
