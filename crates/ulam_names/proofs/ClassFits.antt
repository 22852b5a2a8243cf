-- What is a resolution of files is found.
use Rattle.std.proofs.Common.{◌≡◌, ℕ, ◌+◌, refl, sym, ap, ◌∙◌, List, [], ◌∷◌, length, map, Option, Some, None, Bool, true, not, Ok, ℤ, nat_lt}
use Rattle.std.proofs.lemmas.Bool.{lt-ltb, not_from_false}
use Rattle.feast_base.specs.declared.place.Place.{Place}
use Rattle.ulam_tree.specs.Raw as t
use Rattle.ulam_tree.specs.Resolved as r
use Rattle.ulam_names.specs.Scopes.{Text, Names, no_names, small_names, Head}
use Rattle.feast_base.specs.declared.limits.TheConstants.{MOST_PARAMS}
use Rattle.ulam_names.specs.declared.limits.TheConstants.{MOST_CLASSES, MOST_MEMBERS}
use Rattle.ulam_names.specs.Classes as w
use Rattle.ulam_names.specs.Classes.{Known, Half, HalfClass, half_field, half_function}
use Rattle.ulam_names.specs.ClassRelation.{AreKnown, IsNew, IsValue, IsLength, AreParams, IsMember, AreMembers, AreItems, AllBehave, NoneCyclic, own_class, IsWhole, AreWhole, AreClasses, IsResolved}
use Rattle.ulam_names.proofs.BodyFits.{type_fits, body_fits, width_fits, answer_or}

known_fits : (done : Known) (xs : List t.Item) (known : Known) → AreKnown done xs known → w.class_names done xs ≡ Ok known
known_fits done [] known h = ap Ok (sym h)
known_fits done (t.ulam n ∷ xs) known h = known_fits done xs known h
known_fits done (t.uses x ∷ xs) known h = known_fits done xs known h
known_fits done (t.class c ∷ xs) known h =
    let few : nat_lt (length done) MOST_CLASSES ≡ true = lt-ltb (length done) MOST_CLASSES h.0 in
    rw (few, h.1, h.2) (known_fits _ xs known h.3)

new_fits : (d : Names) (n : ℕ) (free : Bool) (x : t.Word) → free ≡ true → IsNew d n x → w.new_name d n free x ≡ Ok tt
new_fits d n free x f h =
    let few : nat_lt n MOST_MEMBERS ≡ true = lt-ltb n MOST_MEMBERS h.0 in
    rw (few, f, h.1) refl

value_fits : (d : Names) (k : t.Const) (v : Bool × ℤ) → IsValue d k v → w.const_value d k ≡ Ok v
value_fits d (t.const_number minus n u) v h = ap Ok (sym h)
value_fits d (t.const_truth b) v h = ap Ok (sym h)
value_fits d (t.const_named x) v h = rw h refl

length_fits : (d : Names) (p : Place) (x : Option t.Width) (k : ℕ) → IsLength d x k → w.length_of d p x ≡ Ok k
length_fits d p None k h = ap Ok (sym h)
length_fits d p (Some x) k h = rw (width_fits (w.values d) x h.0 h.1, h.2) (ap Ok (sym h.3))

params_fit : (known : Known) (d : Names) (done : List Text) (ps : List t.Param) (qs : List r.Param) → AreParams known d done ps qs → w.params_of known d done ps ≡ Ok qs
params_fit known d done [] qs h = ap Ok (sym h)
params_fit known d done (p ∷ ps) qs h =
    let few : nat_lt (length done) MOST_PARAMS ≡ true = lt-ltb (length done) MOST_PARAMS h.3 in
    rw (type_fits (w.basics known d) (w.values d) p.of h.0 h.2, few, h.4, params_fit known d _ ps h.1 h.5) (ap Ok (sym h.6))

member_fits : (known : Known) (d : Names) (m : t.Member) (x : Names × List Half) → IsMember known d m x → w.member known d m ≡ Ok x
member_fits known d (t.typedef ty x) z h =
    rw (type_fits (w.basics known d) (w.values d) ty h.0 h.2, h.3, new_fits d (small_names d) (not (w.is_built_in x.name)) x (not_from_false _ h.5) h.4) (ap Ok (sym h.6))
member_fits known d (t.constant ty x k) z h =
    rw (type_fits (w.basics known d) (w.values d) ty h.0 h.3, h.4, new_fits d (small_names d) true x refl h.5, value_fits d k h.2 h.6, h.7) (ap Ok (sym h.8))
member_fits known d (t.field ty x k) z h =
    rw (type_fits (w.basics known d) (w.values d) ty h.0 h.2, h.3, new_fits d (length d.fields) true x refl h.4, length_fits d x.place k h.1 h.5) (ap Ok (sym h.6))
member_fits known d (t.function ty x ps b) z h =
    rw (type_fits (w.basics known d) (w.values d) ty h.0 h.2, new_fits d (length d.functions) true x refl h.3, params_fit known d [] ps h.1 h.4) (ap Ok (sym h.5))

members_fit : (known : Known) (d : Names) (ms : List t.Member) (x : Names × List Half) → AreMembers known d ms x → w.members known d ms ≡ Ok x
members_fit known d [] x h = ap Ok (sym h)
members_fit known d (m ∷ ms) x h = rw (member_fits known d m h.0 h.2, members_fit known h.0.0 ms h.1 h.3) (ap Ok (sym h.4))

items_fit : (known : Known) (xs : List t.Item) (hs : List HalfClass) → AreItems known xs hs → w.items known xs ≡ Ok hs
items_fit known [] hs h = ap Ok (sym h)
items_fit known (t.ulam n ∷ xs) hs h = rw (items_fit known xs hs h) refl
items_fit known (t.uses x ∷ xs) hs h = rw (h.0, items_fit known xs hs h.1) refl
items_fit known (t.class c ∷ xs) hs h = rw (members_fit known no_names c.members h.0 h.2, items_fit known xs h.1 h.3) (ap Ok (sym h.4))

behave_fits : (hs : List HalfClass) → AllBehave hs → w.all_behave hs ≡ Ok tt
behave_fits [] h = refl
behave_fits (x ∷ hs) h = rw h.0 (behave_fits hs h.1)

apart_fits : (heads : List Head) (k : ℕ) (hs : List HalfClass) → NoneCyclic heads k hs → w.none_cyclic heads k hs ≡ Ok tt
apart_fits heads k [] h = refl
apart_fits heads k (x ∷ hs) h = rw h.0 (apart_fits heads (k + 1) hs h.1)

whole_fits : (known : Known) (heads : List Head) (k : ℕ) (d : Names) (m : Half) (x : r.Member) → IsWhole (own_class known heads k d) m x → w.whole_member known heads k d m ≡ Ok x
whole_fits known heads k d (half_field n z len) x h = ap Ok (sym h)
whole_fits known heads k d (half_function f) x h = rw (body_fits _ _ _ f.body h.0 h.1) (ap Ok (sym h.2))

wholes_fit : (known : Known) (heads : List Head) (k : ℕ) (d : Names) (ms : List Half) (xs : List r.Member) → AreWhole (own_class known heads k d) ms xs → w.whole_members known heads k d ms ≡ Ok xs
wholes_fit known heads k d [] xs h = ap Ok (sym h)
wholes_fit known heads k d (m ∷ ms) xs h = rw (whole_fits known heads k d m h.0 h.2, wholes_fit known heads k d ms h.1 h.3) (ap Ok (sym h.4))

classes_fit : (known : Known) (heads : List Head) (k : ℕ) (hs : List HalfClass) (cs : List r.Class) → AreClasses known heads k hs cs → w.whole_classes known heads k hs ≡ Ok cs
classes_fit known heads k [] cs h = ap Ok (sym h)
classes_fit known heads k (x ∷ hs) cs h = rw (wholes_fit known heads k x.names x.members h.0 h.2, classes_fit known heads (k + 1) hs h.1 h.3) (ap Ok (sym h.4))

-- what is a resolution is found
pub program_fits : (xs : List t.Item) (cs : List r.Class) → IsResolved xs cs → w.program xs ≡ Ok cs
program_fits xs cs h =
    rw (known_fits [] xs h.known h.named, items_fit h.known xs h.halves h.declared, behave_fits h.halves h.behave, apart_fits (map w.head_of h.halves) 0 h.halves h.apart)
    (classes_fit h.known (map w.head_of h.halves) 0 h.halves cs h.whole)

-- files have one resolution at most
pub one_program : (xs : List t.Item) (a b : List r.Class) → IsResolved xs a → IsResolved xs b → a ≡ b
one_program xs a b h k = ap (answer_or a) (sym (program_fits xs a h) ∙ program_fits xs b k)
