-- A class whose names are looked up declares each name once.
use Rattle.std.proofs.Common.{◌≡◌, ◌⊎◌, inl, inr, List, [], ◌∷◌, ◌++◌, Bool, true, false, ◌||◌, cond, refl, sym, ap, ◌∙◌}
use Rattle.std.specs.Prelude.{bytes_eq}
use Rattle.std.specs.List.{filter}
use Rattle.std.proofs.lemmas.Bool.{false≢true}
use Rattle.std.proofs.lemmas.List.Folds.{list_any-append}
use Rattle.std.proofs.lemmas.Slice.Eq.{bytes_eq-Decides}
use Rattle.std.proofs.Math.Bool.{or-false}
use Rattle.ulam_tree.specs.Raw.{Member, typedef, constant, field, function}
use Rattle.ulam_heirs.specs.Flat.{member_word, is_named}
use Rattle.ulam_names.specs.Scopes.{Text, Names, declares_name, is_among, names_of}
use Rattle.ulam_names.specs.Classes.{Known, Half}
use Rattle.ulam_names.specs.ClassRelation.{IsMember, AreMembers}

-- Tests, of which one more holds

or_swap : (a b c : Bool) → ((a || b) || c) ≡ ((a || c) || b)
or_swap true b c = refl
or_swap false true true = refl
or_swap false true false = refl
or_swap false false true = refl
or_swap false false false = refl

or_inside : (a b c : Bool) → (a || (b || c)) ≡ ((a || b) || c)
or_inside true b c = refl
or_inside false b c = refl

or_second_true : (a b : Bool) → b ≡ true → (a || b) ≡ true
or_second_true true b e = refl
or_second_true false b e = e

-- names with one more

among_end : (n w : Text) (ns : List Text) → is_among n (ns ++ w ∷ []) ≡ (is_among n ns || bytes_eq n w)
among_end n w ns = list_any-append (bytes_eq n) ns (w ∷ []) ∙ ap (λ b. is_among n ns || b) (or-false (bytes_eq n w))

pub names_more : {A : Type 0} (ps : List (Text × A)) (p : Text × A) → names_of (ps ++ p ∷ []) ≡ names_of ps ++ p.0 ∷ []
names_more [] p = refl
names_more (q ∷ ps) p = ap (λ ns. q.0 ∷ ns) (names_more ps p)

beside_end : {A : Type 0} (n : Text) (ps : List (Text × A)) (p : Text × A) → is_among n (names_of (ps ++ p ∷ [])) ≡ (is_among n (names_of ps) || bytes_eq n p.0)
beside_end n ps p = ap (is_among n) (names_more ps p) ∙ among_end n p.0 (names_of ps)

-- what a class has declared, with one more name
module _ (a b c e z : Bool) where
  in_typedefs : (x : Bool) → x ≡ (a || z) → (((x || b) || c) || e) ≡ ((((a || b) || c) || e) || z)
  in_typedefs x is = ap (λ y. ((y || b) || c) || e) is ∙ ap (λ y. (y || c) || e) (or_swap a z b) ∙ ap (λ y. y || e) (or_swap (a || b) z c) ∙ or_swap ((a || b) || c) z e

  in_constants : (x : Bool) → x ≡ (b || z) → (((a || x) || c) || e) ≡ ((((a || b) || c) || e) || z)
  in_constants x is = ap (λ y. ((a || y) || c) || e) is ∙ ap (λ y. (y || c) || e) (or_inside a b z) ∙ ap (λ y. y || e) (or_swap (a || b) z c) ∙ or_swap ((a || b) || c) z e

  in_fields : (x : Bool) → x ≡ (c || z) → (((a || b) || x) || e) ≡ ((((a || b) || c) || e) || z)
  in_fields x is = ap (λ y. ((a || b) || y) || e) is ∙ ap (λ y. y || e) (or_inside (a || b) c z) ∙ or_swap ((a || b) || c) z e

  in_functions : (x : Bool) → x ≡ (e || z) → (((a || b) || c) || x) ≡ ((((a || b) || c) || e) || z)
  in_functions x is = ap (λ y. ((a || b) || c) || y) is ∙ or_inside ((a || b) || c) e z

-- a member declares its name

abbrev sorts : Names → Text → Bool × Bool × Bool × Bool
sorts d n = (is_among n (names_of d.typedefs), is_among n (names_of d.constants), is_among n (names_of d.fields), is_among n d.functions)

declares_more : (known : Known) (d : Names) (m : Member) (x : Names × List Half) (n : Text) → IsMember known d m x → declares_name x.0 n ≡ (declares_name d n || bytes_eq n (member_word m).name)
declares_more known d (typedef ty w) x n h =
    let s = sorts d n in
    ap (λ (y : Names × List Half). declares_name y.0 n) h.6 ∙ in_typedefs s.0 s.1 s.2 s.3 (bytes_eq n w.name) _ (beside_end n d.typedefs (w.name, h.1))
declares_more known d (constant ty w k) x n h =
    let s = sorts d n in
    ap (λ (y : Names × List Half). declares_name y.0 n) h.8 ∙ in_constants s.0 s.1 s.2 s.3 (bytes_eq n w.name) _ (beside_end n d.constants (w.name, record { num = h.1; value = h.2.1 }))
declares_more known d (field ty w k) x n h =
    let s = sorts d n in
    ap (λ (y : Names × List Half). declares_name y.0 n) h.6 ∙ in_fields s.0 s.1 s.2 s.3 (bytes_eq n w.name) _ (beside_end n d.fields (w.name, h.0.ty))
declares_more known d (function ty w ps b) x n h =
    let s = sorts d n in
    ap (λ (y : Names × List Half). declares_name y.0 n) h.5 ∙ in_functions s.0 s.1 s.2 s.3 (bytes_eq n w.name) _ (among_end n w.name d.functions)

is_new : (known : Known) (d : Names) (m : Member) (x : Names × List Half) → IsMember known d m x → declares_name d (member_word m).name ≡ false
is_new known d (typedef ty w) x h = h.4.1
is_new known d (constant ty w k) x h = h.5.1
is_new known d (field ty w k) x h = h.4.1
is_new known d (function ty w ps b) x h = h.3.1

-- what is declared is not declared again
no_more : (known : Known) (d : Names) (ms : List Member) (x : Names × List Half) (n : Text) → AreMembers known d ms x → declares_name d n ≡ true → filter (is_named n) ms ≡ []
no_more known d [] x n h e = refl
no_more known d (m ∷ ms) x n h e = go (is_named n m) refl (no_more known h.0.0 ms h.1 n h.3 (declares_more known d m h.0 n h.2 ∙ ap (λ b. b || bytes_eq n (member_word m).name) e))
  where
    go : (b : Bool) → is_named n m ≡ b → filter (is_named n) ms ≡ [] → cond b (m ∷ filter (is_named n) ms) (filter (is_named n) ms) ≡ []
    go false is rest = rest
    go true is rest =
        let same : (member_word m).name ≡ n = (bytes_eq-Decides (member_word m).name n).0 is in
        absurd (false≢true (sym (is_new known d m h.0 h.2) ∙ ap (declares_name d) same ∙ e))

abbrev pub AtMostOnce : Text → List Member → Type 0
AtMostOnce n ms = (filter (is_named n) ms ≡ []) ⊎ ((m : Member) × (filter (is_named n) ms ≡ m ∷ []))

pub at_most_once : (known : Known) (d : Names) (ms : List Member) (x : Names × List Half) (n : Text) → AreMembers known d ms x → AtMostOnce n ms
at_most_once known d [] x n h = inl refl
at_most_once known d (m ∷ ms) x n h = go (is_named n m) refl (at_most_once known h.0.0 ms h.1 n h.3)
  where
    go : (b : Bool) → is_named n m ≡ b → AtMostOnce n ms → (cond b (m ∷ filter (is_named n) ms) (filter (is_named n) ms) ≡ []) ⊎ ((u : Member) × (cond b (m ∷ filter (is_named n) ms) (filter (is_named n) ms) ≡ u ∷ []))
    go false is rest = rest
    go true is rest =
        let same : (member_word m).name ≡ n = (bytes_eq-Decides (member_word m).name n).0 is in
        let own : bytes_eq n (member_word m).name ≡ true = (bytes_eq-Decides n (member_word m).name).1 (sym same) in
        let after = declares_more known d m h.0 n h.2 ∙ or_second_true (declares_name d n) (bytes_eq n (member_word m).name) own in
        inr (m, ap (λ us. m ∷ us) (no_more known h.0.0 ms h.1 n h.3 after))
