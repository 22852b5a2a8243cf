-- What is found for files is a resolution.
use Rattle.std.proofs.Common.{◌≡◌, ℕ, ◌+◌, ◌<◌, refl, sym, ap, subst, ◌∙◌, List, [], ◌∷◌, ◌++◌, length, map, Option, Some, None, Bool, true, false, not, ◌&&◌, ◌||◌, Ok, Err, pos, nat_lt, int_le, is_some}
use Rattle.std.proofs.lemmas.Bool.{ltb-true, not-true}
use Rattle.list_laws.proofs.Tests.{both}
use Rattle.feast_base.specs.declared.place.Place.{Place}
use Rattle.ulam_tree.specs.Raw as t
use Rattle.ulam_tree.specs.Resolved as r
use Rattle.ulam_tree.specs.Found.{fault_of}
use Rattle.ulam_names.specs.Faults.{Fault, Found}
use Rattle.ulam_names.specs.Scopes.{Text, Names, no_names, declares_name, small_names, Head, is_among, names_of, as_number}
use Rattle.bit_field.specs.declared.TheConstants.{STATE_BITS}
use Rattle.feast_base.specs.declared.limits.TheConstants.{MOST_PARAMS}
use Rattle.ulam_names.specs.declared.limits.TheConstants.{MOST_CLASSES, MOST_MEMBERS}
use Rattle.ulam_names.specs.Classes as w
use Rattle.ulam_names.specs.Walk.{width_value, body}
use Rattle.ulam_names.specs.Classes.{Known, Half, HalfClass, half_field, half_function, first_fault}
use Rattle.ulam_names.specs.ClassRelation.{AreKnown, IsNew, IsValue, IsLength, AreParams, IsMember, AreMembers, AreItems, AllBehave, NoneCyclic, own_class, IsWhole, AreWhole, AreClasses, IsResolved}
use Rattle.ulam_names.proofs.ClassFits.{program_fits}
use Rattle.ulam_tree.proofs.Means.{Means, means_then, means_found, means_must, must_means, found_means, means_more}
use Rattle.ulam_names.proofs.BodyMeans.{type_means, width_means, body_means}

neither : (a b : Bool) → not (a || b) ≡ true → (a ≡ false) × (b ≡ false)
neither true b h = cc
neither false true h = cc
neither false false h = (refl, refl)

-- what is known after one more class
abbrev IsNewClass : Known → t.Class → Known → Type 0
IsNewClass done c more = (length done < MOST_CLASSES) × (is_among c.word.name (names_of done) ≡ false) × (w.is_built_in c.word.name ≡ false) × (more ≡ done ++ (c.word.name, c.quark) ∷ [])

new_class_means : (done : Known) (c : t.Class) → Means (IsNewClass done c) (w.new_class done c)
new_class_means done c =
    let Q : Known → Type 0 = IsNewClass done c in
    means_must Q (nat_lt (length done) MOST_CLASSES) _ _ (λ few.
    means_must Q (not (is_among c.word.name (names_of done) || w.is_built_in c.word.name)) _ _ (λ new.
    let apart = neither (is_among c.word.name (names_of done)) (w.is_built_in c.word.name) new in
    (ltb-true (length done) MOST_CLASSES few, apart.0, apart.1, refl)))

pub known_means : (done : Known) (xs : List t.Item) → Means (AreKnown done xs) (w.class_names done xs)
known_means done [] = refl
known_means done (t.ulam n ∷ xs) = known_means done xs
known_means done (t.uses x ∷ xs) = known_means done xs
known_means done (t.class c ∷ xs) =
    let Q : Known → Type 0 = AreKnown done (t.class c ∷ xs) in
    means_then (IsNewClass done c) Q (w.new_class done c) _ (new_class_means done c) (λ more hm.
    means_more (AreKnown more xs) Q (w.class_names more xs) (known_means more xs)
    (λ known hk. (hm.0, hm.1, hm.2, subst (λ (d : Known). AreKnown d xs known) hm.3 hk)))

new_means : (d : Names) (n : ℕ) (free : Bool) (x : t.Word) → Means (λ _. (free ≡ true) × IsNew d n x) (w.new_name d n free x)
new_means d n free x =
    let Q : Unit {0} → Type 0 = λ _. (free ≡ true) × IsNew d n x in
    means_must Q (nat_lt n MOST_MEMBERS) _ _ (λ few.
    must_means Q (free && not (declares_name d x.name)) _ (λ new.
    let p = both free (not (declares_name d x.name)) new in
    (p.0, (ltb-true n MOST_MEMBERS few, not-true _ p.1))))

value_means : (d : Names) (k : t.Const) → Means (IsValue d k) (w.const_value d k)
value_means d (t.const_number minus n u) = refl
value_means d (t.const_truth b) = refl
value_means d (t.const_named x) = found_means _ _

length_means : (d : Names) (p : Place) (x : Option t.Width) → Means (IsLength d x) (w.length_of d p x)
length_means d p None = refl
length_means d p (Some x) =
    let Q : ℕ → Type 0 = IsLength d (Some x) in
    means_then _ Q (width_value (w.values d) x) _ (width_means (w.values d) x) (λ v hv.
    means_must Q (int_le (pos 1) v && int_le v (pos STATE_BITS)) _ _ (λ ok. (v, hv, ok, refl)))

params_mean : (known : Known) (d : Names) (done : List Text) (ps : List t.Param) → Means (AreParams known d done ps) (w.params_of known d done ps)
params_mean known d done [] = refl
params_mean known d done (p ∷ ps) =
    let Q : List r.Param → Type 0 = AreParams known d done (p ∷ ps) in
    means_then _ Q (w.member_type known d p.of) _ (type_means (w.basics known d) (w.values d) p.of) (λ n hn.
    means_must Q (nat_lt (length done) MOST_PARAMS) _ _ (λ few.
    means_must Q (not (is_among p.word.name done)) _ _ (λ new.
    means_then _ Q (w.params_of known d (done ++ p.word.name ∷ []) ps) _ (params_mean known d (done ++ p.word.name ∷ []) ps) (λ more hm.
    (n, more, hn, ltb-true (length done) MOST_PARAMS few, not-true _ new, hm, refl)))))

member_means : (known : Known) (d : Names) (m : t.Member) → Means (IsMember known d m) (w.member known d m)
member_means known d (t.typedef ty x) =
    let Q : Names × List Half → Type 0 = IsMember known d (t.typedef ty x) in
    means_then _ Q (w.member_type known d ty) _ (type_means (w.basics known d) (w.values d) ty) (λ n hn.
    means_found Q (as_number n.ty) _ _ (λ num hu.
    means_then _ Q (w.new_name d (small_names d) (not (w.is_built_in x.name)) x) _ (new_means d (small_names d) (not (w.is_built_in x.name)) x) (λ u hw.
    (n, num, hn, hu, hw.1, not-true _ hw.0, refl))))
member_means known d (t.constant ty x k) =
    let Q : Names × List Half → Type 0 = IsMember known d (t.constant ty x k) in
    means_then _ Q (w.member_type known d ty) _ (type_means (w.basics known d) (w.values d) ty) (λ n hn.
    means_found Q (as_number n.ty) _ _ (λ num hu.
    means_then _ Q (w.new_name d (small_names d) true x) _ (new_means d (small_names d) true x) (λ u hw.
    means_then _ Q (w.const_value d k) _ (value_means d k) (λ v hv.
    means_must Q (w.takes_value num v) _ _ (λ ok. (n, num, v, hn, hu, hw.1, hv, ok, refl))))))
member_means known d (t.field ty x k) =
    let Q : Names × List Half → Type 0 = IsMember known d (t.field ty x k) in
    means_then _ Q (w.member_type known d ty) _ (type_means (w.basics known d) (w.values d) ty) (λ n hn.
    means_must Q (w.may_be_member known n.ty (is_some k)) _ _ (λ ok.
    means_then _ Q (w.new_name d (length d.fields) true x) _ (new_means d (length d.fields) true x) (λ u hw.
    means_then _ Q (w.length_of d x.place k) _ (length_means d x.place k) (λ len hl. (n, len, hn, ok, hw.1, hl, refl)))))
member_means known d (t.function ty x ps b) =
    let Q : Names × List Half → Type 0 = IsMember known d (t.function ty x ps b) in
    means_then _ Q (w.member_type known d ty) _ (type_means (w.basics known d) (w.values d) ty) (λ n hn.
    means_then _ Q (w.new_name d (length d.functions) true x) _ (new_means d (length d.functions) true x) (λ u hw.
    means_then _ Q (w.params_of known d [] ps) _ (params_mean known d [] ps) (λ qs hq. (n, qs, hn, hw.1, hq, refl))))

members_mean : (known : Known) (d : Names) (ms : List t.Member) → Means (AreMembers known d ms) (w.members known d ms)
members_mean known d [] = refl
members_mean known d (m ∷ ms) =
    let Q : Names × List Half → Type 0 = AreMembers known d (m ∷ ms) in
    means_then _ Q (w.member known d m) _ (member_means known d m) (λ a ha.
    means_then _ Q (w.members known a.0 ms) _ (members_mean known a.0 ms) (λ b hb. (a, b, ha, hb, refl)))

abbrev IsUse : Known → t.Word → List HalfClass → Type 0
IsUse known x hs = (w.may_use known x.name ≡ true) × (hs ≡ [])

use_means : (known : Known) (x : t.Word) → Means (IsUse known x) (w.item known (t.uses x))
use_means known x = means_must (IsUse known x) (w.may_use known x.name) _ _ (λ ok. (ok, refl))

abbrev IsOneClass : Known → t.Class → List HalfClass → Type 0
IsOneClass known c hs = (a : Names × List Half) × AreMembers known no_names c.members a × (hs ≡ record { quark = c.quark; word = c.word; names = a.0; members = a.1 } ∷ [])

abbrev IsHalfClass : Known → t.Class → HalfClass → Type 0
IsHalfClass known c h = (a : Names × List Half) × AreMembers known no_names c.members a × (h ≡ record { quark = c.quark; word = c.word; names = a.0; members = a.1 })

half_means : (known : Known) (c : t.Class) → Means (IsHalfClass known c) (w.half_class known c)
half_means known c = means_then _ (IsHalfClass known c) (w.members known no_names c.members) _ (members_mean known no_names c.members) (λ a ha. (a, ha, refl))

class_means : (known : Known) (c : t.Class) → Means (IsOneClass known c) (w.item known (t.class c))
class_means known c =
    means_then (IsHalfClass known c) (IsOneClass known c) (w.half_class known c) _ (half_means known c)
    (λ h hh. (hh.0, hh.1, ap (λ (z : HalfClass). z ∷ []) hh.2))

pub items_mean : (known : Known) (xs : List t.Item) → Means (AreItems known xs) (w.items known xs)
items_mean known [] = refl
items_mean known (t.ulam n ∷ xs) = means_then _ (AreItems known (t.ulam n ∷ xs)) (w.items known xs) _ (items_mean known xs) (λ hs hh. hh)
items_mean known (t.uses x ∷ xs) =
    let Q : List HalfClass → Type 0 = AreItems known (t.uses x ∷ xs) in
    means_then (IsUse known x) Q (w.item known (t.uses x)) _ (use_means known x) (λ front hf.
    means_then _ Q (w.items known xs) _ (items_mean known xs) (λ hs hh. (hf.0, subst (AreItems known xs) (sym (ap (λ (z : List HalfClass). z ++ hs) hf.1)) hh)))
items_mean known (t.class c ∷ xs) =
    let Q : List HalfClass → Type 0 = AreItems known (t.class c ∷ xs) in
    means_then (IsOneClass known c) Q (w.item known (t.class c)) _ (class_means known c) (λ front hf.
    means_then _ Q (w.items known xs) _ (items_mean known xs) (λ more hm. (hf.0, more, hf.1, hm, ap (λ (z : List HalfClass). z ++ more) hf.2)))

behave_means : (hs : List HalfClass) → Means (λ _. AllBehave hs) (w.all_behave hs)
behave_means [] = tt
behave_means (x ∷ hs) =
    means_must (λ _. AllBehave (x ∷ hs)) (w.behaves x) _ _ (λ ok. means_more (λ _. AllBehave hs) (λ _. AllBehave (x ∷ hs)) (w.all_behave hs) (behave_means hs) (λ u hh. (ok, hh)))

apart_means : (heads : List Head) (k : ℕ) (hs : List HalfClass) → Means (λ _. NoneCyclic heads k hs) (w.none_cyclic heads k hs)
apart_means heads k [] = tt
apart_means heads k (x ∷ hs) =
    means_must (λ _. NoneCyclic heads k (x ∷ hs)) (not (w.holds_itself heads k)) _ _ (λ ok.
    means_more (λ _. NoneCyclic heads (k + 1) hs) (λ _. NoneCyclic heads k (x ∷ hs)) (w.none_cyclic heads (k + 1) hs) (apart_means heads (k + 1) hs) (λ u hh. (not-true _ ok, hh)))

whole_means : (known : Known) (heads : List Head) (k : ℕ) (d : Names) (m : Half) → Means (IsWhole (own_class known heads k d) m) (w.whole_member known heads k d m)
whole_means known heads k d (half_field n z len) = refl
whole_means known heads k d (half_function f) =
    let c = w.context_of known heads k d f in
    means_then _ (IsWhole (own_class known heads k d) (half_function f)) (body c (w.scope_of heads f) (length f.params) f.body) _ (body_means c (w.scope_of heads f) (length f.params) f.body) (λ b hb. (b, hb, refl))

wholes_mean : (known : Known) (heads : List Head) (k : ℕ) (d : Names) (ms : List Half) → Means (AreWhole (own_class known heads k d) ms) (w.whole_members known heads k d ms)
wholes_mean known heads k d [] = refl
wholes_mean known heads k d (m ∷ ms) =
    let Q : List r.Member → Type 0 = AreWhole (own_class known heads k d) (m ∷ ms) in
    means_then _ Q (w.whole_member known heads k d m) _ (whole_means known heads k d m) (λ x hx.
    means_then _ Q (w.whole_members known heads k d ms) _ (wholes_mean known heads k d ms) (λ xs hs. (x, xs, hx, hs, refl)))

abbrev IsWholeClass : Known → List Head → ℕ → HalfClass → r.Class → Type 0
IsWholeClass known heads k h c = (xs : List r.Member) × AreWhole (own_class known heads k h.names) h.members xs × (c ≡ record { quark = h.quark; word = h.word; members = xs })

whole_class_means : (known : Known) (heads : List Head) (k : ℕ) (h : HalfClass) → Means (IsWholeClass known heads k h) (w.whole_class known heads k h)
whole_class_means known heads k h =
    means_then _ (IsWholeClass known heads k h) (w.whole_members known heads k h.names h.members) _ (wholes_mean known heads k h.names h.members) (λ xs hx. (xs, hx, refl))

classes_mean : (known : Known) (heads : List Head) (k : ℕ) (hs : List HalfClass) → Means (AreClasses known heads k hs) (w.whole_classes known heads k hs)
classes_mean known heads k [] = refl
classes_mean known heads k (x ∷ hs) =
    let Q : List r.Class → Type 0 = AreClasses known heads k (x ∷ hs) in
    means_then (IsWholeClass known heads k x) Q (w.whole_class known heads k x) _ (whole_class_means known heads k x) (λ c hc.
    means_then _ Q (w.whole_classes known heads (k + 1) hs) _ (classes_mean known heads (k + 1) hs) (λ cs hcs. (hc.0, cs, hc.1, hcs, ap (λ (z : r.Class). z ∷ cs) hc.2)))

-- what is found is a resolution
pub program_means : (xs : List t.Item) → Means (IsResolved xs) (w.program xs)
program_means xs =
    let Q : List r.Class → Type 0 = IsResolved xs in
    means_then _ Q (w.class_names [] xs) _ (known_means [] xs) (λ known hn.
    means_then _ Q (w.items known xs) _ (items_mean known xs) (λ hs hd.
    means_then _ Q (w.all_behave hs) _ (behave_means hs) (λ u hb.
    means_then _ Q (w.none_cyclic (map w.head_of hs) 0 hs) _ (apart_means (map w.head_of hs) 0 hs) (λ v ha.
    means_more (AreClasses known (map w.head_of hs) 0 hs) Q (w.whole_classes known (map w.head_of hs) 0 hs) (classes_mean known (map w.head_of hs) 0 hs) (λ cs hc.
    record { known = known; halves = hs; named = hn; declared = hd; behave = hb; apart = ha; whole = hc })))))

-- Where there is a fault there is no resolution, and where there is none there is one.
pub fault_means : (xs : List t.Item) (f : Fault) → w.program xs ≡ Err f → (cs : List r.Class) → IsResolved xs cs → ⊥
fault_means xs f e cs h = let p = sym e ∙ program_fits xs cs h in cc

-- no first fault, so a resolution
pub some_resolution : (xs : List t.Item) → first_fault xs ≡ None → (cs : List r.Class) × IsResolved xs cs
some_resolution xs e = go (w.program xs) refl (program_means xs) e
  where
    go : (x : Found (List r.Class)) → w.program xs ≡ x → Means (IsResolved xs) x → fault_of x ≡ None → (cs : List r.Class) × IsResolved xs cs
    go (Ok cs) is h e = (cs, h)
    go (Err f) is h e = cc

-- a resolution, so no first fault
pub no_fault : (xs : List t.Item) (cs : List r.Class) → IsResolved xs cs → first_fault xs ≡ None
no_fault xs cs h = ap fault_of (program_fits xs cs h)
