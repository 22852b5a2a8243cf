-- A class through the stages: as it is written, flat, with its names looked up, and typed.
use Rattle.std.proofs.Common.{◌≡◌, ℕ, zero, suc, ◌+◌, ◌<◌, List, [], ◌∷◌, ◌++◌, length, map, Some, option_map, refl, sym, ap, ◌∙◌, subst, arith}
use Rattle.std.specs.Prelude.{slice_get}
use Rattle.std.proofs.lemmas.List.{map-append, length-map}
use Rattle.list_laws.proofs.Slots.{get_inside}
use Rattle.ulam_tree.specs.Raw.{Item, ulam, uses, class, Class, Member}
use Rattle.ulam_tree.specs.Resolved as r
use Rattle.ulam_tree.specs.Typed as t
use Rattle.ulam_heirs.specs.Heads.{Heads}
use Rattle.ulam_heirs.specs.Lines.{Heir}
use Rattle.ulam_heirs.specs.Flat.{flat_members}
use Rattle.ulam_heirs.specs.Files.{heirs_in, all_heirs, class_count, flat_class, flat_items, flat_files, flat_files_from}
use Rattle.ulam_names.specs.Scopes.{Head, no_names}
use Rattle.ulam_names.specs.Classes.{Known, HalfClass, head_of}
use Rattle.ulam_names.specs.ClassRelation.{AreMembers, AreItems, own_class, AreWhole, AreClasses}
use Rattle.type_rules.specs.Scopes.{ClassSig}
use Rattle.type_rules.specs.Programs.{class_sig}
use Rattle.type_rules.specs.ProgramTyping.{AreTypedMembers, AreTypedClasses}
use Rattle.element_set.proofs.EnoughFiles.{in_row}
use Rattle.accepted_laws.specs.Accepted.{AcceptedTrees, heirs}
use Rattle.accepted_laws.proofs.Lists.{changed_place}

-- As they are written

-- the classes among items
abbrev pub classes_in : List Item → List Class
classes_in [] = []
classes_in (ulam n ∷ xs) = classes_in xs
classes_in (uses w ∷ xs) = classes_in xs
classes_in (class c ∷ xs) = c ∷ classes_in xs

classes_append : (xs ys : List Item) → classes_in (xs ++ ys) ≡ classes_in xs ++ classes_in ys
classes_append [] ys = refl
classes_append (ulam n ∷ xs) ys = classes_append xs ys
classes_append (uses w ∷ xs) ys = classes_append xs ys
classes_append (class c ∷ xs) ys = ap (λ cs. c ∷ cs) (classes_append xs ys)

abbrev written : List Heir → List Class
written hs = map (λ (h : Heir). h.class) hs

file_classes : (h : Heads) (xs : List Item) → written (heirs_in h xs) ≡ classes_in xs
file_classes h [] = refl
file_classes h (ulam n ∷ xs) = file_classes h xs
file_classes h (uses w ∷ xs) = file_classes h xs
file_classes h (class c ∷ xs) = ap (λ cs. c ∷ cs) (file_classes h xs)

all_classes : (fs : List (List Item)) (hs : List Heads) → length fs ≡ length hs → written (all_heirs fs hs) ≡ classes_in (in_row fs)
all_classes [] hs e = refl
all_classes (f ∷ fs) [] e = absurd (omega (arith, e))
all_classes (f ∷ fs) (h ∷ hs) e =
    map-append (λ (x : Heir). x.class) (heirs_in h f) (all_heirs fs hs)
    ∙ ap (λ cs. cs ++ written (all_heirs fs hs)) (file_classes h f)
    ∙ ap (λ cs. classes_in f ++ cs) (all_classes fs hs (omega (arith, e)))
    ∙ sym (classes_append f (in_row fs))

-- Flat

flat_append : (hs : List Heir) (k : ℕ) (xs ys : List Item) → flat_items hs k (xs ++ ys) ≡ flat_items hs k xs ++ flat_items hs (k + class_count xs) ys
flat_append hs k [] ys = let e : k ≡ k + 0 = omega arith in ap (λ n. flat_items hs n ys) e
flat_append hs k (ulam n ∷ xs) ys = ap (λ zs. ulam n ∷ zs) (flat_append hs k xs ys)
flat_append hs k (uses w ∷ xs) ys = ap (λ zs. uses w ∷ zs) (flat_append hs k xs ys)
flat_append hs k (class c ∷ xs) ys =
    let e : k + 1 + class_count xs ≡ k + suc (class_count xs) = omega arith in
    ap (λ zs. flat_class hs k c ∷ zs) (flat_append hs (k + 1) xs ys ∙ ap (λ n. flat_items hs (k + 1) xs ++ flat_items hs n ys) e)

flat_joined : (hs : List Heir) (k : ℕ) (fs : List (List Item)) → in_row (flat_files_from hs k fs) ≡ flat_items hs k (in_row fs)
flat_joined hs k [] = refl
flat_joined hs k (f ∷ fs) = ap (λ xs. flat_items hs k f ++ xs) (flat_joined hs (k + class_count f) fs) ∙ sym (flat_append hs k f (in_row fs))

abbrev with_members : Class → List Member → Class
with_members c ms = record { quark = c.quark; word = c.word; members = ms }

flat_at : (hs : List Heir) (k : ℕ) (xs : List Item) (i : ℕ) (c : Class) → slice_get (classes_in xs) i ≡ Some c → slice_get (classes_in (flat_items hs k xs)) i ≡ Some (with_members c (flat_members hs (k + i)))
flat_at hs k [] i c e = cc
flat_at hs k (ulam n ∷ xs) i c e = flat_at hs k xs i c e
flat_at hs k (uses w ∷ xs) i c e = flat_at hs k xs i c e
flat_at hs k (class d ∷ xs) zero c e =
    let same : d ≡ c = cc in
    let n : k ≡ k + 0 = omega arith in
    λ i. Some (with_members (same i) (flat_members hs (n i)))
flat_at hs k (class d ∷ xs) (suc i) c e =
    let n : k + 1 + i ≡ k + suc i = omega arith in
    flat_at hs (k + 1) xs i c e ∙ ap (λ j. Some (with_members c (flat_members hs j))) n

-- With names looked up

record HalfRow (known : Known) (hs : List HalfClass) (i : ℕ) (c : Class) : Type 0 where
  half : HalfClass
  at : slice_get hs i ≡ Some half
  declares : AreMembers known no_names c.members (half.names, half.members)

half_at : (known : Known) (xs : List Item) (hs : List HalfClass) (i : ℕ) (c : Class) → AreItems known xs hs → slice_get (classes_in xs) i ≡ Some c → HalfRow known hs i c
half_at known [] hs i c a e = cc
half_at known (ulam n ∷ xs) hs i c a e = half_at known xs hs i c a e
half_at known (uses w ∷ xs) hs i c a e = half_at known xs hs i c a.1 e
half_at known (class d ∷ xs) hs zero c a e =
    let same : d ≡ c = cc in
    let half : HalfClass = record { quark = d.quark; word = d.word; names = a.0.0; members = a.0.1 } in
    subst (λ (hs : List HalfClass). HalfRow known hs zero c) (sym a.4)
    (record { half = half; at = refl; declares = subst (λ (c : Class). AreMembers known no_names c.members (a.0.0, a.0.1)) same a.2 })
half_at known (class d ∷ xs) hs (suc i) c a e =
    let rest = half_at known xs a.1 i c a.3 e in
    subst (λ (hs : List HalfClass). HalfRow known hs (suc i) c) (sym a.4) (record { half = rest.half; at = rest.at; declares = rest.declares })

record WholeRow (known : Known) (heads : List Head) (cs : List r.Class) (i : ℕ) (h : HalfClass) : Type 0 where
  plain : r.Class
  number : ℕ
  at : slice_get cs i ≡ Some plain
  whole : AreWhole (own_class known heads number h.names) h.members plain.members

whole_at : (known : Known) (heads : List Head) (k : ℕ) (hs : List HalfClass) (cs : List r.Class) (i : ℕ) (h : HalfClass) → AreClasses known heads k hs cs → slice_get hs i ≡ Some h → WholeRow known heads cs i h
whole_at known heads k [] cs i h a e = cc
whole_at known heads k (g ∷ hs) cs zero h a e =
    let same : g ≡ h = cc in
    subst (λ (cs : List r.Class). WholeRow known heads cs zero h) (sym a.4)
    (record { plain = record { quark = g.quark; word = g.word; members = a.0 }; number = k; at = refl; whole = subst (λ (f : HalfClass). AreWhole (own_class known heads k f.names) f.members a.0) same a.2 })
whole_at known heads k (g ∷ hs) cs (suc i) h a e =
    let rest = whole_at known heads (k + 1) hs a.1 i h a.3 e in
    subst (λ (cs : List r.Class). WholeRow known heads cs (suc i) h) (sym a.4) (record { plain = rest.plain; number = rest.number; at = rest.at; whole = rest.whole })

-- Typed

record TypedRow (sigs : List ClassSig) (us : List t.Class) (i : ℕ) (c : r.Class) : Type 0 where
  typed : t.Class
  index : ℕ
  at : slice_get us i ≡ Some typed
  has : AreTypedMembers sigs index c.members typed.members

typed_at : (sigs : List ClassSig) (k : ℕ) (cs : List r.Class) (us : List t.Class) (i : ℕ) (c : r.Class) → AreTypedClasses sigs k cs us → slice_get cs i ≡ Some c → TypedRow sigs us i c
typed_at sigs k [] us i c a e = cc
typed_at sigs k (d ∷ cs) us zero c a e =
    let same : d ≡ c = cc in
    subst (λ (us : List t.Class). TypedRow sigs us zero c) (sym a.4)
    (record { typed = record { quark = d.quark; word = d.word; members = a.0 }; index = k; at = refl; has = subst (λ (b : r.Class). AreTypedMembers sigs k b.members a.0) same a.2 })
typed_at sigs k (d ∷ cs) us (suc i) c a e =
    let rest = typed_at sigs (k + 1) cs a.1 i c a.3 e in
    subst (λ (us : List t.Class). TypedRow sigs us (suc i) c) (sym a.4) (record { typed = rest.typed; index = rest.index; at = rest.at; has = rest.has })

-- A class in all of them

pub record Row (x : AcceptedTrees) (k : ℕ) : Type 0 where
  pub half : HalfClass
  pub half_is : slice_get x.resolved.halves k ≡ Some half
  pub declares : AreMembers x.resolved.known no_names (flat_members (heirs x) k) (half.names, half.members)
  pub plain : r.Class
  pub plain_is : slice_get x.classes k ≡ Some plain
  pub number : ℕ
  pub whole : AreWhole (own_class x.resolved.known (map head_of x.resolved.halves) number half.names) half.members plain.members
  pub typed : t.Class
  pub typed_is : slice_get x.tree k ≡ Some typed
  pub index : ℕ
  pub has : AreTypedMembers (map class_sig x.classes) index plain.members typed.members

flat_class_at : (x : AcceptedTrees) (k : ℕ) (h : Heir) → slice_get (heirs x) k ≡ Some h → slice_get (classes_in (in_row (flat_files x.files x.heads))) k ≡ Some (with_members h.class (flat_members (heirs x) k))
flat_class_at x k h e =
    let hs = heirs x in
    let n : 0 + k ≡ k = omega arith in
    let own : slice_get (classes_in (in_row x.files)) k ≡ Some h.class = ap (λ cs. slice_get cs k) (sym (all_classes x.files x.heads x.each)) ∙ changed_place (λ (g : Heir). g.class) hs k ∙ ap (option_map (λ (g : Heir). g.class)) e in
    ap (λ xs. slice_get (classes_in xs) k) (flat_joined hs 0 x.files)
    ∙ flat_at hs 0 (in_row x.files) k h.class own
    ∙ ap (λ j. Some (with_members h.class (flat_members hs j))) n

pub row : (x : AcceptedTrees) (k : ℕ) (h : Heir) → slice_get (heirs x) k ≡ Some h → Row x k
row x k h e =
    let known = x.resolved.known in
    let half = half_at known (in_row (flat_files x.files x.heads)) x.resolved.halves k (with_members h.class (flat_members (heirs x) k)) x.resolved.declared (flat_class_at x k h e) in
    let whole = whole_at known (map head_of x.resolved.halves) 0 x.resolved.halves x.classes k half.half x.resolved.whole half.at in
    let typed = typed_at (map class_sig x.classes) 0 x.classes x.tree k whole.plain x.typed whole.at in
    record {
      half = half.half;
      half_is = half.at;
      declares = half.declares;
      plain = whole.plain;
      plain_is = whole.at;
      number = whole.number;
      whole = whole.whole;
      typed = typed.typed;
      typed_is = typed.at;
      index = typed.index;
      has = typed.has;
    }

-- Numbers

typed_words : (sigs : List ClassSig) (k : ℕ) (cs : List r.Class) (us : List t.Class) → AreTypedClasses sigs k cs us → map (λ (u : t.Class). u.word) us ≡ map (λ (c : r.Class). c.word) cs
typed_words sigs k [] us a = ap (map (λ (u : t.Class). u.word)) a
typed_words sigs k (c ∷ cs) us a = ap (map (λ (u : t.Class). u.word)) a.4 ∙ ap (λ ws. c.word ∷ ws) (typed_words sigs (k + 1) cs a.1 a.3)

whole_words : (known : Known) (heads : List Head) (k : ℕ) (hs : List HalfClass) (cs : List r.Class) → AreClasses known heads k hs cs → map (λ (c : r.Class). c.word) cs ≡ map (λ (h : HalfClass). h.word) hs
whole_words known heads k [] cs a = ap (map (λ (c : r.Class). c.word)) a
whole_words known heads k (h ∷ hs) cs a = ap (map (λ (c : r.Class). c.word)) a.4 ∙ ap (λ ws. h.word ∷ ws) (whole_words known heads (k + 1) hs a.1 a.3)

half_words : (known : Known) (xs : List Item) (hs : List HalfClass) → AreItems known xs hs → map (λ (h : HalfClass). h.word) hs ≡ map (λ (c : Class). c.word) (classes_in xs)
half_words known [] hs a = ap (map (λ (h : HalfClass). h.word)) a
half_words known (ulam n ∷ xs) hs a = half_words known xs hs a
half_words known (uses w ∷ xs) hs a = half_words known xs hs a.1
half_words known (class c ∷ xs) hs a = ap (map (λ (h : HalfClass). h.word)) a.4 ∙ ap (λ ws. c.word ∷ ws) (half_words known xs a.1 a.3)

flat_words : (hs : List Heir) (k : ℕ) (xs : List Item) → map (λ (c : Class). c.word) (classes_in (flat_items hs k xs)) ≡ map (λ (c : Class). c.word) (classes_in xs)
flat_words hs k [] = refl
flat_words hs k (ulam n ∷ xs) = flat_words hs k xs
flat_words hs k (uses w ∷ xs) = flat_words hs k xs
flat_words hs k (class c ∷ xs) = ap (λ ws. c.word ∷ ws) (flat_words hs (k + 1) xs)

heir_words : (hs : List Heir) → map (λ (c : Class). c.word) (written hs) ≡ map (λ (h : Heir). h.class.word) hs
heir_words [] = refl
heir_words (h ∷ hs) = ap (λ ws. h.class.word ∷ ws) (heir_words hs)

pub numbers : (x : AcceptedTrees) → map (λ (u : t.Class). u.word) x.tree ≡ map (λ (h : Heir). h.class.word) (heirs x)
numbers x =
    typed_words (map class_sig x.classes) 0 x.classes x.tree x.typed
    ∙ whole_words x.resolved.known (map head_of x.resolved.halves) 0 x.resolved.halves x.classes x.resolved.whole
    ∙ half_words x.resolved.known (in_row (flat_files x.files x.heads)) x.resolved.halves x.resolved.declared
    ∙ ap (λ xs. map (λ (c : Class). c.word) (classes_in xs)) (flat_joined (heirs x) 0 x.files)
    ∙ flat_words (heirs x) 0 (in_row x.files)
    ∙ ap (map (λ (c : Class). c.word)) (sym (all_classes x.files x.heads x.each))
    ∙ heir_words (heirs x)

get_within : {A : Type 0} (xs : List A) (k : ℕ) (a : A) → slice_get xs k ≡ Some a → k < length xs
get_within [] k a e = cc
get_within (b ∷ xs) zero a e = omega arith
get_within (b ∷ xs) (suc k) a e = let lt : k < length xs = get_within xs k a e in omega (arith, lt)

-- a class of the typed tree is one of those that are written
pub heir_of_typed : (x : AcceptedTrees) (k : ℕ) (u : t.Class) → slice_get x.tree k ≡ Some u → (h : Heir) × (slice_get (heirs x) k ≡ Some h)
heir_of_typed x k u e =
    let long = ap length (numbers x) in
    let typed = length-map x.tree (λ (u : t.Class). u.word) in
    let whole = length-map (heirs x) (λ (h : Heir). h.class.word) in
    let lt : k < length x.tree = get_within x.tree k u e in
    get_inside (heirs x) k (omega (arith, long, typed, whole, lt))
