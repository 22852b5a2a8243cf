-- What a resolution says of its classes, and what stays of it in its typed tree.
use Rattle.std.proofs.Common.{ℕ, zero, suc, ◌≡◌, ◌+◌, ◌<◌, ◌≤◌, List, [], ◌∷◌, ◌++◌, length, map, get_or, Bool, false, refl, sym, ap, subst, ◌∙◌, arith, length-append}
use Rattle.std.proofs.lemmas.List.{length-map}
use Rattle.ulam_tree.specs.Statements.{Class, field, function}
use Rattle.ulam_tree.specs.Raw as raw
use Rattle.ulam_tree.specs.Resolved as r
use Rattle.ulam_tree.specs.Typed as t
use Rattle.ulam_names.specs.Scopes.{Head, Names, no_names, is_among, names_of}
use Rattle.ulam_names.specs.declared.limits.TheConstants.{MOST_CLASSES, MOST_MEMBERS}
use Rattle.ulam_names.specs.Classes.{Known, Half, half_field, half_function, HalfClass}
use Rattle.ulam_names.specs.ClassRelation.{IsMember, AreMembers, AreKnown, AreItems, own_class, AreWhole, AreClasses, IsResolved}
use Rattle.type_rules.specs.Scopes.{ClassSig}
use Rattle.type_rules.specs.Programs.{class_sig}
use Rattle.type_rules.specs.ProgramTyping.{AreTypedMembers, AreTypedClasses, IsTypedProgram}
use Rattle.element_set.specs.Names.{class_names, AreNew, field_count, counts, AreSlim, AreNamed}

abbrev pub half_names : List HalfClass → List (List ℕ)
half_names [] = []
half_names (h ∷ hs) = h.word.name ∷ half_names hs

names_end : (done : Known) (p : List ℕ × Bool) → names_of (done ++ p ∷ []) ≡ names_of done ++ p.0 ∷ []
names_end [] p = refl
names_end (d ∷ done) p = ap (λ xs. d.0 ∷ xs) (names_end done p)

abbrev Apart : Known → List HalfClass → Type 0
Apart done hs = (length done + length hs ≤ MOST_CLASSES) × AreNew (names_of done) (half_names hs)

apart_more : (done : Known) (p : List ℕ × Bool) (h : HalfClass) (more : List HalfClass) → h.word.name ≡ p.0 → is_among p.0 (names_of done) ≡ false → Apart (done ++ p ∷ []) more → Apart done (h ∷ more)
apart_more done p h more e new rest = (
  omega (arith, rest.0, length-append done (p ∷ [])),
  (ap (λ n. is_among n (names_of done)) e ∙ new, subst (λ d. AreNew d (half_names more)) (names_end done p ∙ ap (λ n. names_of done ++ n ∷ []) (sym e)) rest.1),
)

items_apart : (done : Known) (xs : List raw.Item) (known full : Known) (hs : List HalfClass) → length done ≤ MOST_CLASSES → AreKnown done xs known → AreItems full xs hs → Apart done hs
items_apart done [] known full hs few k i = subst (Apart done) (sym i) (omega arith, tt)
items_apart done (raw.ulam n ∷ xs) known full hs few k i = items_apart done xs known full hs few k i
items_apart done (raw.uses w ∷ xs) known full hs few k i = items_apart done xs known full hs few k i.1
items_apart done (raw.class c ∷ xs) known full hs few k i =
    let p : List ℕ × Bool = (c.word.name, c.quark) in
    let room : length done < MOST_CLASSES = k.0 in
    let long = length-append done (p ∷ []) in
    let rest = items_apart (done ++ p ∷ []) xs known full i.1 (omega arith) k.3 i.3 in
    let half : HalfClass = record { quark = c.quark; word = c.word; names = i.0.0; members = i.0.1 } in
    subst (Apart done) (sym i.4) (apart_more done p half i.1 refl k.1 rest)

pub classes_half : (known : Known) (heads : List Head) (k : ℕ) (hs : List HalfClass) (cs : List r.Class) → AreClasses known heads k hs cs → class_names cs ≡ half_names hs
classes_half known heads k [] cs h = ap class_names h
classes_half known heads k (x ∷ hs) cs h = ap class_names h.4 ∙ ap (λ ns. x.word.name ∷ ns) (classes_half known heads (k + 1) hs h.1 h.3)

class_count : {E A : Type 0} (cs : List (Class E A)) → length (class_names cs) ≡ length cs
class_count {E = E} {A = A} cs = length-map cs (λ (c : Class E A). c.word.name)

half_count : (hs : List HalfClass) → length (half_names hs) ≡ length hs
half_count [] = refl
half_count (h ∷ hs) = ap (λ n. suc n) (half_count hs)

-- how many data members a class has

abbrev half_fields : List Half → ℕ
half_fields [] = 0
half_fields (half_field n w k ∷ ms) = suc (half_fields ms)
half_fields (half_function f ∷ ms) = half_fields ms

half_append : (ms us : List Half) → half_fields (ms ++ us) ≡ half_fields ms + half_fields us
half_append [] us = omega arith
half_append (half_field n w k ∷ ms) us = let more = half_append ms us in omega arith
half_append (half_function f ∷ ms) us = half_append ms us

-- what was declared and what was found since are as many, and not too many
abbrev Slim : Names → Names × List Half → Type 0
Slim d x = (length x.0.fields ≤ MOST_MEMBERS) × (length d.fields + half_fields x.1 ≡ length x.0.fields)

member_slim : (known : Known) (d : Names) (m : raw.Member) (x : Names × List Half) → IsMember known d m x → length d.fields ≤ MOST_MEMBERS → Slim d x
member_slim known d (raw.typedef ty w) x h few = subst (Slim d) (sym h.6) (few, omega arith)
member_slim known d (raw.constant ty w k) x h few = subst (Slim d) (sym h.8) (few, omega arith)
member_slim known d (raw.field ty w k) x h few =
    let room : length d.fields < MOST_MEMBERS = h.4.0 in
    let long = length-append d.fields ((w.name, h.0.ty) ∷ []) in
    subst (Slim d) (sym h.6) (omega arith, omega arith)
member_slim known d (raw.function ty w ps b) x h few = subst (Slim d) (sym h.5) (few, omega arith)

members_slim : (known : Known) (d : Names) (ms : List raw.Member) (x : Names × List Half) → AreMembers known d ms x → length d.fields ≤ MOST_MEMBERS → Slim d x
members_slim known d [] x h few = subst (Slim d) (sym h) (few, omega arith)
members_slim known d (m ∷ ms) x h few =
    let a = member_slim known d m h.0 h.2 few in
    let b = members_slim known h.0.0 ms h.1 h.3 a.0 in
    subst (Slim d) (sym h.4) (b.0, omega (arith, a.1, b.1, half_append h.0.1 h.1.1))

abbrev HalvesSlim : List HalfClass → Type 0
HalvesSlim [] = Unit {0}
HalvesSlim (h ∷ hs) = (half_fields h.members ≤ MOST_MEMBERS) × HalvesSlim hs

items_slim : (known : Known) (xs : List raw.Item) (hs : List HalfClass) → AreItems known xs hs → HalvesSlim hs
items_slim known [] hs h = subst HalvesSlim (sym h) tt
items_slim known (raw.ulam n ∷ xs) hs h = items_slim known xs hs h
items_slim known (raw.uses w ∷ xs) hs h = items_slim known xs hs h.1
items_slim known (raw.class c ∷ xs) hs h =
    let a = members_slim known no_names c.members h.0 h.2 (omega arith) in
    subst HalvesSlim (sym h.4) (omega (arith, a.0, a.1), items_slim known xs h.1 h.3)

whole_count : (known : Known) (heads : List Head) (k : ℕ) (d : Names) (ms : List Half) (us : List r.Member) → AreWhole (own_class known heads k d) ms us → field_count us ≡ half_fields ms
whole_count known heads k d [] us h = ap field_count h
whole_count known heads k d (half_field n w l ∷ ms) us h =
    ap field_count h.4 ∙ ap (λ (u : r.Member). field_count (u ∷ h.1)) h.2 ∙ ap (λ n. suc n) (whole_count known heads k d ms h.1 h.3)
whole_count known heads k d (half_function f ∷ ms) us h =
    ap field_count h.4 ∙ ap (λ (u : r.Member). field_count (u ∷ h.1)) h.2.2 ∙ whole_count known heads k d ms h.1 h.3

slim_more : {E A : Type 0} (c : Class E A) (cs : List (Class E A)) → field_count c.members ≤ MOST_MEMBERS → AreSlim cs → AreSlim (c ∷ cs)
slim_more c cs h rest zero = h
slim_more c cs h rest (suc k) = rest k

classes_slim : (known : Known) (heads : List Head) (k : ℕ) (hs : List HalfClass) (cs : List r.Class) → AreClasses known heads k hs cs → HalvesSlim hs → AreSlim cs
classes_slim known heads k [] cs h slim = subst AreSlim (sym h) (λ i. omega arith)
classes_slim known heads k (x ∷ hs) cs h slim =
    let e = whole_count known heads k x.names x.members h.0 h.2 in
    subst AreSlim (sym h.4) (slim_more (record { quark = x.quark; word = x.word; members = h.0 }) h.1 (omega (arith, e, slim.0)) (classes_slim known heads (k + 1) hs h.1 h.3 slim.1))

pub resolved_named : (xs : List raw.Item) (cs : List r.Class) → IsResolved xs cs → AreNamed cs
resolved_named xs cs h =
    let a = items_apart [] xs h.known h.known h.halves (omega arith) h.named h.declared in
    let e = classes_half h.known _ 0 h.halves cs h.whole in
    record {
      few = omega (arith, a.0, class_count cs, ap length e, half_count h.halves);
      new = subst (AreNew []) (sym e) a.1;
      slim = classes_slim h.known _ 0 h.halves cs h.whole (items_slim h.known xs h.halves h.declared);
    }

pub typed_names : (sigs : List ClassSig) (k : ℕ) (cs : List r.Class) (us : List t.Class) → AreTypedClasses sigs k cs us → class_names us ≡ class_names cs
typed_names sigs k [] us h = ap class_names h
typed_names sigs k (c ∷ cs) us h = ap class_names h.4 ∙ ap (λ ns. c.word.name ∷ ns) (typed_names sigs (k + 1) cs h.1 h.3)

typed_count : (sigs : List ClassSig) (k : ℕ) (ms : List r.Member) (us : List t.Member) → AreTypedMembers sigs k ms us → field_count us ≡ field_count ms
typed_count sigs k [] us h = ap field_count h
typed_count sigs k (field of w n ∷ ms) us h =
    ap field_count h.4 ∙ ap (λ (u : t.Member). field_count (u ∷ h.1)) h.2 ∙ ap (λ n. suc n) (typed_count sigs k ms h.1 h.3)
typed_count sigs k (function of w ps b ∷ ms) us h =
    ap field_count h.4 ∙ ap (λ (u : t.Member). field_count (u ∷ h.1)) h.2.5 ∙ typed_count sigs k ms h.1 h.3

typed_counts : (sigs : List ClassSig) (k : ℕ) (cs : List r.Class) (us : List t.Class) → AreTypedClasses sigs k cs us → counts us ≡ counts cs
typed_counts sigs k [] us h = ap counts h
typed_counts sigs k (c ∷ cs) us h =
    ap counts h.4 ∙ ap (λ n. n ∷ counts h.1) (typed_count sigs k c.members h.0 h.2) ∙ ap (λ ns. field_count c.members ∷ ns) (typed_counts sigs (k + 1) cs h.1 h.3)

pub typed_named : (cs : List r.Class) (us : List t.Class) → IsTypedProgram cs us → AreNamed cs → AreNamed us
typed_named cs us h a =
    let e = typed_names (map class_sig cs) 0 cs us h in
    record {
      few = omega (arith, a.few, class_count cs, class_count us, ap length e);
      new = subst (AreNew []) (sym e) a.new;
      slim = subst (λ ns. (k : ℕ) → get_or ns k 0 ≤ MOST_MEMBERS) (sym (typed_counts (map class_sig cs) 0 cs us h)) a.slim;
    }
