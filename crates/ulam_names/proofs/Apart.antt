-- In a resolution of files no class contains itself.
use Rattle.std.proofs.Common.{◌≡◌, ℕ, zero, suc, ◌+◌, ◌<◌, refl, sym, ap, ◌∙◌, List, [], ◌∷◌, ◌++◌, length, map, Bool, true, false, arith, append_assoc}
use Rattle.std.specs.Prelude.{flat_map}
use Rattle.std.specs.List.{list_any}
use Rattle.std.proofs.lemmas.Bool.{false≢true}
use Rattle.std.proofs.lemmas.Grind.{flat_map-append}
use Rattle.std.proofs.lemmas.List.{append-nil, length-map}
use Rattle.ulam_tree.specs.Raw as t
use Rattle.ulam_tree.specs.Resolved as r
use Rattle.ulam_tree.specs.Ways.{leads, class_number, member_parts, class_parts, NoneContainsItself}
use Rattle.ulam_tree.proofs.Ways.{leads_all, of_class}
use Rattle.ulam_names.specs.Scopes.{Names, Head, no_names}
use Rattle.ulam_names.specs.Classes.{Known, Half, HalfClass, half_field, half_function, head_of, parts_of, holds_itself}
use Rattle.ulam_names.specs.Rounds.{field_parts}
use Rattle.ulam_names.specs.ClassRelation.{IsMember, AreMembers, AreItems, NoneCyclic, own_class, IsWhole, AreWhole, AreClasses, IsResolved}

abbrev half_parts : Half → List ℕ
half_parts (half_field n w len) = class_number n.ty
half_parts (half_function f) = []

member_adds : (known : Known) (d : Names) (m : t.Member) (x : Names × List Half) → IsMember known d m x → field_parts x.0.fields ≡ field_parts d.fields ++ flat_map half_parts x.1
member_adds known d (t.typedef ty w) x h = rw h.6 (sym (append-nil (field_parts d.fields)))
member_adds known d (t.constant ty w k) x h = rw h.8 (sym (append-nil (field_parts d.fields)))
member_adds known d (t.field ty w k) x h = rw h.6 (flat_map-append _ d.fields _)
member_adds known d (t.function ty w ps b) x h = rw h.5 (sym (append-nil (field_parts d.fields)))

members_add : (known : Known) (d : Names) (ms : List t.Member) (x : Names × List Half) → AreMembers known d ms x → field_parts x.0.fields ≡ field_parts d.fields ++ flat_map half_parts x.1
members_add known d [] x h = rw h (sym (append-nil (field_parts d.fields)))
members_add known d (m ∷ ms) x h =
    rw h.4 (
    members_add known h.0.0 ms h.1 h.3
    ∙ ap (λ (xs : List ℕ). xs ++ flat_map half_parts h.1.1) (member_adds known d m h.0 h.2)
    ∙ append_assoc (field_parts d.fields) (flat_map half_parts h.0.1) (flat_map half_parts h.1.1)
    ∙ ap (λ (xs : List ℕ). field_parts d.fields ++ xs) (sym (flat_map-append half_parts h.0.1 h.1.1))
    )

-- the fields of each class are those among its members
abbrev AllFields : List HalfClass → Type 0
AllFields [] = Unit {0}
AllFields (h ∷ hs) = (field_parts h.names.fields ≡ flat_map half_parts h.members) × AllFields hs

items_fields : (known : Known) (xs : List t.Item) (hs : List HalfClass) → AreItems known xs hs → AllFields hs
items_fields known [] hs h = rw h tt
items_fields known (t.ulam n ∷ xs) hs h = items_fields known xs hs h
items_fields known (t.uses w ∷ xs) hs h = items_fields known xs hs h.1
items_fields known (t.class c ∷ xs) hs h = rw h.4 (members_add known no_names c.members h.0 h.2, items_fields known xs h.1 h.3)

whole_parts : (known : Known) (heads : List Head) (k : ℕ) (d : Names) (m : Half) (x : r.Member) → IsWhole (own_class known heads k d) m x → member_parts x ≡ half_parts m
whole_parts known heads k d (half_field n w len) x h = rw h refl
whole_parts known heads k d (half_function f) x h = rw h.2 refl

wholes_parts : (known : Known) (heads : List Head) (k : ℕ) (d : Names) (ms : List Half) (xs : List r.Member) → AreWhole (own_class known heads k d) ms xs → flat_map member_parts xs ≡ flat_map half_parts ms
wholes_parts known heads k d [] xs h = rw h refl
wholes_parts known heads k d (m ∷ ms) xs h =
    rw h.4 (
    ap (λ (ys : List ℕ). ys ++ flat_map member_parts h.1) (whole_parts known heads k d m h.0 h.2)
    ∙ ap (λ (ys : List ℕ). half_parts m ++ ys) (wholes_parts known heads k d ms h.1 h.3)
    )

same_parts : (known : Known) (heads : List Head) (k : ℕ) (hs : List HalfClass) (cs : List r.Class) → AllFields hs → AreClasses known heads k hs cs → (j : ℕ) → class_parts cs j ≡ parts_of (map head_of hs) j
same_parts known heads k [] cs f h j = rw h (none j)
  where
    none : (j : ℕ) → class_parts [] j ≡ parts_of [] j
    none zero = refl
    none (suc j) = refl
same_parts known heads k (x ∷ hs) cs f h zero = rw h.4 (wholes_parts known heads k x.names x.members h.0 h.2 ∙ sym f.0)
same_parts known heads k (x ∷ hs) cs f h (suc j) = rw h.4 (same_parts known heads (k + 1) hs h.1 f.1 h.3 j)

in_heads : (heads : List Head) (k : ℕ) (f : ℕ → Bool) → list_any f (parts_of heads k) ≡ true → k < length heads
in_heads [] k f e = absurd (none k e)
  where
    none : (k : ℕ) → list_any f (parts_of [] k) ≡ true → ⊥
    none zero e = false≢true e
    none (suc k) e = false≢true e
in_heads (h ∷ hs) zero f e = omega arith
in_heads (h ∷ hs) (suc k) f e = let less : k < length hs = in_heads hs k f e in omega arith

none_holds : (heads : List Head) (k : ℕ) (hs : List HalfClass) → NoneCyclic heads k hs → (j i : ℕ) → i ≡ k + j → j < length hs → holds_itself heads i ≡ false
none_holds heads k [] h j i e lt = absurd (omega arith)
none_holds heads k (x ∷ hs) h zero i e lt = let same : i ≡ k = omega arith in ap (holds_itself heads) same ∙ h.0
none_holds heads k (x ∷ hs) h (suc j) i e lt = none_holds heads (k + 1) hs h.1 j i (omega arith) (omega arith)

pub none_contains : (xs : List t.Item) (cs : List r.Class) → IsResolved xs cs → NoneContainsItself cs
none_contains xs cs h m k =
    ap (λ (parts : ℕ → List ℕ). leads parts m k k) (λ i j. same_parts h.known heads 0 h.halves cs (items_fields h.known xs h.halves h.declared) h.whole j i)
    ∙ go (leads parts m k k) refl
  where
    heads : List Head
    heads = map head_of h.halves

    parts : ℕ → List ℕ
    parts = parts_of heads

    go : (b : Bool) → leads parts m k k ≡ b → b ≡ false
    go false e = refl
    go true e =
        let lt : k < length heads = of_class (length heads) parts (in_heads heads) k m k e in
        let long : length heads ≡ length h.halves = length-map h.halves head_of in
        sym (leads_all (length heads) parts (in_heads heads) m k k e) ∙ none_holds heads 0 h.halves h.apart k k (omega arith) (omega (arith, lt, long))
