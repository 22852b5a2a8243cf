-- Names find the same in the flat files within their own bounds as in all of them.
use Rattle.std.proofs.Common.{◌≡◌, ℕ, ◌+◌, ◌<◌, ◌≤◌, ◌⊎◌, inl, inr, refl, sym, ap, subst, ◌∙◌, List, [], ◌∷◌, ◌++◌, length, map, take, drop, Bool, true, false, ◌||◌, cond, Ok, Err, Some, Result, IfOk, arith, length-append, length-take-le, take-append-drop}
use Rattle.std.specs.List.{flat_map, list_all}
use Rattle.std.specs.Global.{Vec}
use Rattle.std.proofs.lemmas.Bool.{cases_lt, ltb-true}
use Rattle.std.proofs.lemmas.List.{map-append, take_all}
use Rattle.ulam_tree.specs.Found.{◌>>=◌}
use Rattle.ulam_tree.specs.Raw as t
use Rattle.ulam_tree.specs.Raw.{Item}
use Rattle.ulam_tree.specs.Resolved as r
use Rattle.ulam_tree.proofs.Means.{Means, means_at}
use Rattle.ulam_heirs.specs.Heads.{Heads}
use Rattle.ulam_heirs.specs.Lines.{Heir}
use Rattle.ulam_heirs.specs.Files.{all_heirs, class_count, all_count, is_plain, flat_items, flat_files_from, flat_files}
use Rattle.ulam_heirs.specs.Within.{cut_item, cut_items, cut_files, are_above, files_within}
use Rattle.ulam_heirs.specs.Views.{files_of}
use Rattle.ulam_heirs.specs.declared.fault.HeirsFault.{HeirsFault}
use Rattle.ulam_heirs.proofs.Plain.{plain_same}
use Rattle.ulam_names.specs.Files.{all_items}
use Rattle.ulam_tree.specs.declared.raw.File.{File}
use Rattle.element_set.specs.Told.{flat_row}
use Rattle.element_set.proofs.Telling.{joined as row_of}
use Rattle.ulam_names.specs.Faults.{Fault, Found}
use Rattle.ulam_names.specs.Scopes.{Names, no_names, small_names}
use Rattle.ulam_names.specs.declared.limits.TheConstants.{MOST_CLASSES}
use Rattle.ulam_names.specs.Classes.{Known, Half, HalfClass, new_class, class_names, members, item, items, all_behave, none_cyclic, whole_classes, head_of, member, program}
use Rattle.ulam_names.specs.ClassRelation.{AreKnown, IsMember, AreMembers, AreItems}
use Rattle.ulam_names.proofs.ClassMeans.{known_means, items_mean}

-- the most members that names let a class have, 64 of each sort, and one more
abbrev pub enough_members : ℕ
enough_members = 193

-- A class with no more of each sort of name than there may be, and how many names it has.

abbrev size : Names → ℕ
size d = small_names d + (length d.fields + length d.functions)

record IsWithin (d : Names) : Type 0 where
  small : small_names d ≤ 64
  fields : length d.fields ≤ 64
  functions : length d.functions ≤ 64

-- one more member is one more name
abbrev IsNext : Names → Names → Type 0
IsNext d e = IsWithin e × (size e ≡ size d + 1)

member_next : (known : Known) (d : Names) (m : t.Member) (x : Names × List Half) → IsMember known d m x → IsWithin d → IsNext d x.0
member_next known d (t.typedef ty w) x h b =
    let e = h.6 in
    let a : length x.0.typedefs ≡ length d.typedefs + 1 = ap (λ (z : Names × List Half). length z.0.typedefs) e ∙ length-append d.typedefs _ in
    let c : length x.0.constants ≡ length d.constants = ap (λ (z : Names × List Half). length z.0.constants) e in
    let f : length x.0.fields ≡ length d.fields = ap (λ (z : Names × List Half). length z.0.fields) e in
    let g : length x.0.functions ≡ length d.functions = ap (λ (z : Names × List Half). length z.0.functions) e in
    let few : small_names d < 64 = h.4.0 in
    (record { small = omega (arith, a, c, few); fields = omega (arith, f, b.fields); functions = omega (arith, g, b.functions) }, omega (arith, a, c, f, g))
member_next known d (t.constant ty w k) x h b =
    let e = h.8 in
    let a : length x.0.typedefs ≡ length d.typedefs = ap (λ (z : Names × List Half). length z.0.typedefs) e in
    let c : length x.0.constants ≡ length d.constants + 1 = ap (λ (z : Names × List Half). length z.0.constants) e ∙ length-append d.constants _ in
    let f : length x.0.fields ≡ length d.fields = ap (λ (z : Names × List Half). length z.0.fields) e in
    let g : length x.0.functions ≡ length d.functions = ap (λ (z : Names × List Half). length z.0.functions) e in
    let few : small_names d < 64 = h.5.0 in
    (record { small = omega (arith, a, c, few); fields = omega (arith, f, b.fields); functions = omega (arith, g, b.functions) }, omega (arith, a, c, f, g))
member_next known d (t.field ty w k) x h b =
    let e = h.6 in
    let a : length x.0.typedefs ≡ length d.typedefs = ap (λ (z : Names × List Half). length z.0.typedefs) e in
    let c : length x.0.constants ≡ length d.constants = ap (λ (z : Names × List Half). length z.0.constants) e in
    let f : length x.0.fields ≡ length d.fields + 1 = ap (λ (z : Names × List Half). length z.0.fields) e ∙ length-append d.fields _ in
    let g : length x.0.functions ≡ length d.functions = ap (λ (z : Names × List Half). length z.0.functions) e in
    let few : length d.fields < 64 = h.4.0 in
    (record { small = omega (arith, a, c, b.small); fields = omega (arith, f, few); functions = omega (arith, g, b.functions) }, omega (arith, a, c, f, g))
member_next known d (t.function ty w ps body) x h b =
    let e = h.5 in
    let a : length x.0.typedefs ≡ length d.typedefs = ap (λ (z : Names × List Half). length z.0.typedefs) e in
    let c : length x.0.constants ≡ length d.constants = ap (λ (z : Names × List Half). length z.0.constants) e in
    let f : length x.0.fields ≡ length d.fields = ap (λ (z : Names × List Half). length z.0.fields) e in
    let g : length x.0.functions ≡ length d.functions + 1 = ap (λ (z : Names × List Half). length z.0.functions) e ∙ length-append d.functions _ in
    let few : length d.functions < 64 = h.3.0 in
    (record { small = omega (arith, a, c, b.small); fields = omega (arith, f, b.fields); functions = omega (arith, g, few) }, omega (arith, a, c, f, g))

-- so many members are so many names
members_next : (known : Known) (d : Names) (ms : List t.Member) (x : Names × List Half) → AreMembers known d ms x → IsWithin d → IsWithin x.0 × (size x.0 ≡ size d + length ms)
members_next known d [] x h b =
    let e : x.0 ≡ d = ap (λ (z : Names × List Half). z.0) h in
    (subst IsWithin (sym e) b, ap size e ∙ omega arith)
members_next known d (m ∷ ms) x h b =
    let first = member_next known d m h.0 h.2 b in
    let rest = members_next known h.0.0 ms h.1 h.3 first.0 in
    let e : x.0 ≡ h.1.0 = ap (λ (z : Names × List Half). z.0) h.4 in
    let same : size x.0 ≡ size h.1.0 = ap size e in
    (subst IsWithin (sym e) rest.0, omega (arith, same, first.1, rest.1))

none_within : IsWithin no_names
none_within = record { small = omega arith; fields = omega arith; functions = omega arith }

-- no class may have as many members as are enough
not_so_many : (known : Known) (ms : List t.Member) (x : Names × List Half) → length ms ≡ 193 → AreMembers known no_names ms x → ⊥
not_so_many known ms x long h =
    let all = members_next known no_names ms x h none_within in
    let count : size x.0 ≡ 0 + length ms = all.1 in
    omega (arith, count, long, all.0.small, all.0.fields, all.0.functions)

-- Members that are refused are refused in the same way with more behind them.

abbrev fault_or : {A : Type 0} → Fault → Found A → Fault
fault_or f (Ok x) = f
fault_or f (Err e) = e

abbrev with_half : List Half → Names × List Half → Names × List Half
with_half front z = (z.0, front ++ z.1)

abbrev next_members : Known → List t.Member → Names × List Half → Found (Names × List Half)
next_members known ms x = members known x.0 ms >>= λ (z : Names × List Half). Ok (with_half x.1 z)

refused_before : (front : List Half) (f : Fault) (z : Found (Names × List Half)) → (z >>= λ (y : Names × List Half). Ok (with_half front y)) ≡ Err f → z ≡ Err f
refused_before front f (Ok y) h = cc
refused_before front f (Err g) h = h

front_by : (known : Known) (d : Names) (m : t.Member) (xs ys : List t.Member) (f : Fault) (z : Found (Names × List Half)) → (z >>= next_members known xs) ≡ Err f →
    ((a : Names) → members known a xs ≡ Err f → members known a (xs ++ ys) ≡ Err f) → (z >>= next_members known (xs ++ ys)) ≡ Err f
front_by known d m xs ys f (Ok a) h more = ap (λ (z : Found (Names × List Half)). z >>= λ (y : Names × List Half). Ok (with_half a.1 y)) (more a.0 (refused_before a.1 f (members known a.0 xs) h))
front_by known d m xs ys f (Err g) h more = h

front_refused : (known : Known) (d : Names) (xs ys : List t.Member) (f : Fault) → members known d xs ≡ Err f → members known d (xs ++ ys) ≡ Err f
front_refused known d [] ys f h = cc
front_refused known d (x ∷ xs) ys f h = front_by known d x xs ys f (member known d x) h (λ a. front_refused known a xs ys f)

-- Classes

abbrev half_of : t.Class → Names × List Half → HalfClass
half_of c x = record { quark = c.quark; word = c.word; names = x.0; members = x.1 }

abbrev item_of : t.Class → Found (Names × List Half) → Found (List HalfClass)
item_of c z = (z >>= λ (x : Names × List Half). Ok (half_of c x)) >>= λ (h : HalfClass). Ok (h ∷ [])

abbrev joined : Found (List HalfClass) → Found (List HalfClass) → Found (List HalfClass)
joined z y = z >>= λ (hs : List HalfClass). y >>= λ (more : List HalfClass). Ok (hs ++ more)

-- members that pass are those of a class
passed : (known : Known) (c : t.Class) (x : Names × List Half) → members known no_names c.members ≡ Ok x → (a : Names × List Half) × AreMembers known no_names c.members a
passed known c x e =
    let it : items known (t.class c ∷ []) ≡ Ok (half_of c x ∷ []) = ap (λ (z : Found (Names × List Half)). joined (item_of c z) (Ok [])) e in
    let are = means_at (AreItems known (t.class c ∷ [])) (items known (t.class c ∷ [])) (half_of c x ∷ []) (items_mean known (t.class c ∷ [])) it in
    (are.0, are.2)

abbrev cut_class : t.Class → t.Class
cut_class c = record { quark = c.quark; word = c.word; members = take enough_members c.members }

class_by : (known : Known) (c : t.Class) (z : Found (Names × List Half)) → members known no_names (take enough_members c.members) ≡ z → 193 ≤ length c.members →
    members known no_names (take enough_members c.members) ≡ members known no_names c.members
class_by known c (Ok x) e long =
    let it = passed known (cut_class c) x e in
    absurd (not_so_many known (take enough_members c.members) it.0 (length-take-le 193 c.members long) it.1)
class_by known c (Err f) e long =
    e
    ∙ sym (front_refused known no_names (take enough_members c.members) (drop enough_members c.members) f e)
    ∙ ap (members known no_names) (take-append-drop enough_members c.members)

class_enough : (known : Known) (c : t.Class) → (length c.members < 193) ⊎ (193 ≤ length c.members) → members known no_names (take enough_members c.members) ≡ members known no_names c.members
class_enough known c (inl short) = ap (members known no_names) (take_all 193 c.members (omega (arith, short)))
class_enough known c (inr long) = class_by known c (members known no_names (take enough_members c.members)) refl long

item_enough : (known : Known) (x : Item) → item known (cut_item (Some enough_members) x) ≡ item known x
item_enough known (t.ulam n) = refl
item_enough known (t.uses w) = refl
item_enough known (t.class c) = ap (item_of c) (class_enough known c (cases_lt (length c.members) 193))

items_enough : (known : Known) (xs : List Item) → items known (cut_items (Some enough_members) xs) ≡ items known xs
items_enough known [] = refl
items_enough known (x ∷ xs) = ap (λ (z : Found (List HalfClass)). joined z (items known (cut_items (Some enough_members) xs))) (item_enough known x) ∙ ap (joined (item known x)) (items_enough known xs)

-- The names of classes do not depend on members.

abbrev SameNames : List Item → List Item → Type 0
SameNames xs ys = (done : Known) → class_names done xs ≡ class_names done ys

names_by : (xs ys : List Item) → SameNames xs ys → (z : Found Known) → (z >>= λ (more : Known). class_names more xs) ≡ (z >>= λ (more : Known). class_names more ys)
names_by xs ys same (Ok known) = same known
names_by xs ys same (Err f) = refl

cut_names : (xs : List Item) → SameNames (cut_items (Some enough_members) xs) xs
cut_names [] done = refl
cut_names (t.ulam n ∷ xs) done = cut_names xs done
cut_names (t.uses w ∷ xs) done = cut_names xs done
cut_names (t.class c ∷ xs) done = names_by (cut_items (Some enough_members) xs) xs (cut_names xs) (new_class done c)

flat_names : (hs : List Heir) (k : ℕ) (xs ys zs : List Item) → SameNames ys zs → SameNames (xs ++ ys) (flat_items hs k xs ++ zs)
flat_names hs k [] ys zs same done = same done
flat_names hs k (t.ulam n ∷ xs) ys zs same done = flat_names hs k xs ys zs same done
flat_names hs k (t.uses w ∷ xs) ys zs same done = flat_names hs k xs ys zs same done
flat_names hs k (t.class c ∷ xs) ys zs same done = names_by (xs ++ ys) (flat_items hs (k + 1) xs ++ zs) (flat_names hs (k + 1) xs ys zs same) (new_class done c)

abbrev pub in_row : List (List Item) → List Item
in_row fs = flat_map (λ (f : List Item). f) fs

all_names : (hs : List Heir) (k : ℕ) (fs : List (List Item)) → SameNames (in_row fs) (in_row (flat_files_from hs k fs))
all_names hs k [] done = refl
all_names hs k (f ∷ fs) done = flat_names hs k f (in_row fs) (in_row (flat_files_from hs (k + class_count f) fs)) (all_names hs (k + class_count f) fs) done

-- Programs

abbrev rest_of : Known → List HalfClass → Found (List r.Class)
rest_of known hs =
    all_behave hs >>= λ (_ : Unit {0}).
    none_cyclic (map head_of hs) 0 hs >>= λ (_ : Unit {0}).
    whole_classes known (map head_of hs) 0 hs

program_by : (xs ys : List Item) → ((known : Known) → items known xs ≡ items known ys) → (z : Found Known) →
    (z >>= λ (known : Known). items known xs >>= rest_of known) ≡ (z >>= λ (known : Known). items known ys >>= rest_of known)
program_by xs ys same (Ok known) = ap (λ (z : Found (List HalfClass)). z >>= rest_of known) (same known)
program_by xs ys same (Err f) = refl

abbrev from_names : List Item → Found Known → Found (List r.Class)
from_names xs z = z >>= λ (known : Known). items known xs >>= rest_of known

program_cut : (xs : List Item) → program (cut_items (Some enough_members) xs) ≡ program xs
program_cut xs = ap (from_names (cut_items (Some enough_members) xs)) (cut_names xs []) ∙ program_by (cut_items (Some enough_members) xs) xs (λ known. items_enough known xs) (class_names [] xs)

-- where too many classes have names, one is refused
known_count : (done : Known) (xs : List Item) (known : Known) → AreKnown done xs known → length done ≤ 256 → (length known ≤ 256) × (length known ≡ length done + class_count xs)
known_count done [] known h few = let e : length known ≡ length done = ap (λ (ks : Known). length ks) h in (omega (arith, e, few), omega (arith, e))
known_count done (t.ulam n ∷ xs) known h few = known_count done xs known h few
known_count done (t.uses w ∷ xs) known h few = known_count done xs known h few
known_count done (t.class c ∷ xs) known h few =
    let more : Known = done ++ (c.word.name, c.quark) ∷ [] in
    let one : length more ≡ length done + 1 = length-append done _ in
    let below : length done < 256 = h.0 in
    let rest = known_count more xs known h.3 (omega (arith, one, below)) in
    (rest.0, omega (arith, one, rest.1))

many_by : (xs ys : List Item) (z : Found Known) → Means (AreKnown [] xs) z → 256 < class_count xs → from_names xs z ≡ from_names ys z
many_by xs ys (Ok known) h many = let count = known_count [] xs known h (omega arith) in absurd (omega (arith, count.0, count.1, many))
many_by xs ys (Err f) h many = refl

program_many : (xs ys : List Item) → SameNames xs ys → 256 < class_count xs → program xs ≡ program ys
program_many xs ys same many = many_by xs ys (class_names [] xs) (known_means [] xs) many ∙ ap (from_names ys) (same [])

count_row : (xs ys : List Item) → class_count (xs ++ ys) ≡ class_count xs + class_count ys
count_row [] ys = omega arith
count_row (t.ulam n ∷ xs) ys = count_row xs ys
count_row (t.uses w ∷ xs) ys = count_row xs ys
count_row (t.class c ∷ xs) ys = let rest : class_count (xs ++ ys) ≡ class_count xs + class_count ys = count_row xs ys in omega (arith, rest)

count_all : (fs : List (List Item)) → class_count (in_row fs) ≡ all_count fs
count_all [] = refl
count_all (f ∷ fs) = count_row f (in_row fs) ∙ ap (λ n. class_count f + n) (count_all fs)

cut_row : (fs : List (List Item)) → in_row (cut_files (Some enough_members) fs) ≡ cut_items (Some enough_members) (in_row fs)
cut_row [] = refl
cut_row (f ∷ fs) = ap (λ (xs : List Item). cut_items (Some enough_members) f ++ xs) (cut_row fs) ∙ sym (map-append (cut_item (Some enough_members)) f (in_row fs))

enough_by : (fs : List (List Item)) (hs : List Heads) → length fs ≡ length hs → (plain many : Bool) → list_all is_plain hs ≡ plain → are_above MOST_CLASSES fs ≡ many →
    program (in_row (cond (plain || many) fs (cut_files (Some enough_members) (flat_files fs hs)))) ≡ program (in_row (flat_files fs hs))
enough_by fs hs long true many p m = ap (λ (gs : List (List Item)). program (in_row gs)) (sym (plain_same fs hs long p).1)
enough_by fs hs long false true p m =
    let more : 256 < all_count fs = ltb-true 256 (all_count fs) m in
    let same : class_count (in_row fs) ≡ all_count fs = count_all fs in
    program_many (in_row fs) (in_row (flat_files fs hs)) (all_names (all_heirs fs hs) 0 fs) (omega (arith, more, same))
enough_by fs hs long false false p m = ap program (cut_row (flat_files fs hs)) ∙ program_cut (in_row (flat_files fs hs))

pub enough : (fs : List (List Item)) (hs : List Heads) → length fs ≡ length hs → program (in_row (files_within MOST_CLASSES enough_members fs hs)) ≡ program (in_row (flat_files fs hs))
enough fs hs long = enough_by fs hs long (list_all is_plain hs) (are_above MOST_CLASSES fs) refl refl

-- so in what the calls give that make flat files, whole and within bounds

pub found_whole : (fs : List (List Item)) (hs : List Heads) (r : Result (Vec File) HeirsFault) → IfOk r (λ v. files_of v.items ≡ flat_files fs hs) →
    IfOk r (λ v. program (all_items v.items) ≡ program (flat_row fs hs))
found_whole fs hs (Ok v) e = ap program (row_of v.items ∙ ap in_row e)
found_whole fs hs (Err f) e = e

pub found_within : (fs : List (List Item)) (hs : List Heads) (r : Result (Vec File) HeirsFault) → length fs ≡ length hs → IfOk r (λ v. files_of v.items ≡ files_within MOST_CLASSES enough_members fs hs) →
    IfOk r (λ v. program (all_items v.items) ≡ program (flat_row fs hs))
found_within fs hs (Ok v) long e = ap program (row_of v.items ∙ ap in_row e) ∙ enough fs hs long
found_within fs hs (Err f) long e = e
