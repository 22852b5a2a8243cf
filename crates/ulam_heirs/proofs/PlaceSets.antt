-- One more place that is marked.
use Rattle.std.proofs.Common.{◌≡◌, ℕ, ◌+◌, ◌<◌, refl, sym, ap, ◌∙◌, List, [], ◌∷◌, ◌++◌, length, take, get_or, Bool, true, false, cond, ◌||◌, nat_eq}
use Rattle.std.specs.Prelude.{◌&&◌}
use Rattle.std.specs.List.{list_any}
use Rattle.std.proofs.lemmas.Bool.{and_parts, eqb-true}
use Rattle.std.proofs.lemmas.List.{take_more}
use Rattle.feast_base.specs.declared.place.Place.{Place}
use Rattle.indexmap.specs.IndexSet.{insert_key}
use Rattle.ulam_heirs.specs.Lines.{same_place}
use Rattle.ulam_heirs.specs.PlaceSets.{PlaceKey, place_key, same_place_key, AreIndexed}

and_turned : (a b c : Bool) → ((a && b) && c) ≡ (a && b && c)
and_turned true b c = refl
and_turned false b c = refl

-- one test and the other
key_same : (p q : Place) → same_place_key (place_key p) (place_key q) ≡ same_place p q
key_same p q = and_turned (nat_eq p.file q.file) (nat_eq p.line q.line) (nat_eq p.column q.column)

key_is : (a b : PlaceKey) → same_place_key a b ≡ true → a ≡ b
key_is a b e =
    let front = and_parts (nat_eq a.0 b.0 && nat_eq a.1 b.1) (nat_eq a.2 b.2) e in
    let two = and_parts (nat_eq a.0 b.0) (nat_eq a.1 b.1) front.0 in
    let file : a.0 ≡ b.0 = eqb-true a.0 b.0 two.0 in
    let line : a.1 ≡ b.1 = eqb-true a.1 b.1 two.1 in
    let column : a.2 ≡ b.2 = eqb-true a.2 b.2 front.1 in
    ap (λ (x : ℕ). (x, a.1, a.2)) file ∙ ap (λ (x : ℕ). (b.0, x, a.2)) line ∙ ap (λ (x : ℕ). (b.0, b.1, x)) column

any_end : {A : Type 0} (test : A → Bool) (xs : List A) (x : A) → list_any test (xs ++ x ∷ []) ≡ (list_any test xs || test x)
any_end test [] x = or_false (test x)
  where
    or_false : (b : Bool) → (b || false) ≡ b
    or_false true = refl
    or_false false = refl
any_end test (y ∷ xs) x = ap (λ b. test y || b) (any_end test xs x) ∙ or_turned (test y) (list_any test xs) (test x)
  where
    or_turned : (a b c : Bool) → (a || (b || c)) ≡ ((a || b) || c)
    or_turned true b c = refl
    or_turned false b c = refl

-- a key that is there already adds nothing
or_there : (b c : Bool) → (c ≡ true → b ≡ true) → b ≡ (b || c)
or_there true c h = refl
or_there false true h = h refl
or_there false false h = refl

inserted : (keys : List PlaceKey) (k j : PlaceKey) (there : Bool) → list_any (same_place_key k) keys ≡ there → list_any (same_place_key j) (cond there keys (keys ++ k ∷ [])) ≡ (list_any (same_place_key j) keys || same_place_key j k)
inserted keys k j true e = or_there (list_any (same_place_key j) keys) (same_place_key j k) (λ s. ap (λ (i : PlaceKey). list_any (same_place_key i) keys) (key_is j k s) ∙ e)
inserted keys k j false e = any_end (same_place_key j) keys k

pub indexed_on : (keys more : List PlaceKey) (places : List Place) (i : ℕ) (d : Place) → i < length places → more ≡ insert_key same_place_key keys (place_key (get_or places i d)) →
    AreIndexed keys (take i places) → AreIndexed more (take (i + 1) places)
indexed_on keys more places i d lt e h p =
    let x : Place = get_or places i d in
    ap (list_any (same_place_key (place_key p))) e
    ∙ inserted keys (place_key x) (place_key p) (list_any (same_place_key (place_key x)) keys) refl
    ∙ ap (λ b. b || same_place_key (place_key p) (place_key x)) (h p)
    ∙ ap (λ b. list_any (same_place p) (take i places) || b) (key_same p x)
    ∙ sym (any_end (same_place p) (take i places) x)
    ∙ ap (list_any (same_place p)) (sym (take_more places i d lt))
