-- Functions keep their names and their parameters up to the typed tree, and each element keeps its `behave`.
use Rattle.std.proofs.Common.{ℕ, zero, suc, ◌≡◌, ◌+◌, ◌<◌, ◌≤◌, Bool, true, false, ◌&&◌, ◌||◌, List, [], ◌∷◌, ◌++◌, length, Some, refl, sym, ap, subst, ◌∙◌, arith, length-append, map, codes, bytes_eq, if◌then◌else◌}
use Rattle.std.specs.Prelude.{slice_get, slice_index_or}
use Rattle.std.specs.List.{list_any}
use Rattle.code_gen.proofs.LaidOut.{members_at}
use Rattle.list_laws.proofs.Tests.{or_second}
use Rattle.ulam_tree.specs.Raw as raw
use Rattle.ulam_tree.specs.Resolved as r
use Rattle.ulam_tree.specs.Typed as t
use Rattle.ulam_names.specs.Scopes.{Head, Names, Text, no_names}
use Rattle.feast_base.specs.declared.limits.TheConstants.{MOST_PARAMS}
use Rattle.ulam_names.specs.Classes.{HalfClass, Half, half_field, half_function, Known, is_behave, is_nothing, no_params}
use Rattle.ulam_names.specs.ClassRelation.{AllBehave, AreClasses, AreItems, AreMembers, AreParams, own_class, AreWhole, IsMember, IsResolved}
use Rattle.type_rules.specs.Programs.{class_sig}
use Rattle.type_rules.specs.ProgramTyping.{AreTypedClasses, AreTypedMembers, IsTypedMember, IsTypedProgram}
use Rattle.type_rules.specs.Scopes.{ClassSig}
use Rattle.ulam_meaning.specs.Programs.{Function, Program, behave_of, function_at, functions, members_of, no_function, number_named, param_types}
use Rattle.ulam_meaning.specs.Paths.{Key, function_of}
use Rattle.ulam_meaning.specs.Events.{behave_key}
use Rattle.code_file.specs.Words.{is_name}
use Rattle.pack_laws.proofs.FormedWords.{AreFormed, IsFormedMember, ItemsFormed}

-- Half classes

abbrev HalfFormed : Half → Type 0
HalfFormed (half_field n w k) = Unit {0}
HalfFormed (half_function f) = (is_name f.word.name ≡ true) × (length f.params ≤ 8)

abbrev HalvesFormed : List Half → Type 0
HalvesFormed [] = Unit {0}
HalvesFormed (x ∷ xs) = HalfFormed x × HalvesFormed xs

halves_append : (xs ys : List Half) → HalvesFormed xs → HalvesFormed ys → HalvesFormed (xs ++ ys)
halves_append [] ys a b = b
halves_append (x ∷ xs) ys a b = (a.0, halves_append xs ys a.1 b)

-- no more parameters than a function may have
params_few : (known : Known) (d : Names) (done : List Text) (ps : List raw.Param) (qs : List r.Param) → AreParams known d done ps qs → length done ≤ 8 → length done + length qs ≤ 8
params_few known d done [] qs h few = subst (λ (l : List r.Param). length done + length l ≤ 8) (sym h) (omega (arith, few))
params_few known d done (p ∷ ps) qs h few =
    let room : length done < MOST_PARAMS = h.3 in
    let long = length-append done (p.word.name ∷ []) in
    let rest = params_few known d (done ++ p.word.name ∷ []) ps h.1 h.5 (omega (arith, room, long)) in
    subst (λ (l : List r.Param). length done + length l ≤ 8) (sym h.6) (omega (arith, rest, long))

member_formed : (known : Known) (d : Names) (x : raw.Member) (a : Names × List Half) → IsMember known d x a → IsFormedMember x → HalvesFormed a.1
member_formed known d (raw.typedef ty w) a h f = subst (λ (a : Names × List Half). HalvesFormed a.1) (sym h.6) tt
member_formed known d (raw.constant ty w v) a h f = subst (λ (a : Names × List Half). HalvesFormed a.1) (sym h.8) tt
member_formed known d (raw.field ty w k) a h f = subst (λ (a : Names × List Half). HalvesFormed a.1) (sym h.6) (tt, tt)
member_formed known d (raw.function ty w ps b) a h f =
    let few = params_few known d [] ps h.1 h.4 (omega arith) in
    subst (λ (a : Names × List Half). HalvesFormed a.1) (sym h.5) ((f, omega (arith, few)), tt)

members_formed : (known : Known) (d : Names) (xs : List raw.Member) (a : Names × List Half) → AreMembers known d xs a → AreFormed xs → HalvesFormed a.1
members_formed known d [] a h f = subst (λ (a : Names × List Half). HalvesFormed a.1) (sym h) tt
members_formed known d (x ∷ xs) a h f =
    subst (λ (a : Names × List Half). HalvesFormed a.1) (sym h.4) (halves_append h.0.1 h.1.1 (member_formed known d x h.0 h.2 f.0) (members_formed known h.0.0 xs h.1 h.3 f.1))

abbrev ClassesHalf : List HalfClass → Type 0
ClassesHalf [] = Unit {0}
ClassesHalf (h ∷ hs) = HalvesFormed h.members × ClassesHalf hs

items_half : (known : Known) (xs : List raw.Item) (hs : List HalfClass) → AreItems known xs hs → ItemsFormed xs → ClassesHalf hs
items_half known [] hs h f = subst ClassesHalf (sym h) tt
items_half known (raw.ulam n ∷ xs) hs h f = items_half known xs hs h f
items_half known (raw.uses w ∷ xs) hs h f = items_half known xs hs h.1 f
items_half known (raw.class c ∷ xs) hs h f = subst ClassesHalf (sym h.4) (members_formed known no_names c.members h.0 h.2 f.0, items_half known xs h.1 h.3 f.1)

-- Whole and typed members

-- a function has a name and few parameters
abbrev pub IsFormedFunction : Function → Type 0
IsFormedFunction f = (is_name f.name ≡ true) × (length f.params ≤ 8)

abbrev pub FunctionsFormed : List Function → Type 0
FunctionsFormed [] = Unit {0}
FunctionsFormed (f ∷ fs) = IsFormedFunction f × FunctionsFormed fs

abbrev is_named_behave : Function → Bool
is_named_behave f = bytes_eq f.name (codes "behave")

params_long : (ps : List t.Param) → length (param_types ps) ≡ length ps
params_long [] = refl
params_long (p ∷ ps) = ap suc (params_long ps)

-- what becomes of half members
record Kept (hs : List Half) (fs : List Function) : Type 0 where
  pub formed : HalvesFormed hs → FunctionsFormed fs
  pub behave : list_any is_behave hs ≡ true → list_any is_named_behave fs ≡ true

none_kept : Kept [] []
none_kept = record { formed = λ h. tt; behave = λ h. h }

named_first : (a b c : Bool) (x y : Bool) → (x ≡ true → y ≡ true) → ((a && b && c) || x) ≡ true → (a || y) ≡ true
named_first true b c x y f h = refl
named_first false b c x y f h = f h

-- a class has formed functions, and an element has a `behave`
pub record IsFormedClass (c : t.Class) : Type 0 where
  pub formed : FunctionsFormed (functions c.members)
  pub behave : c.quark ≡ false → list_any is_named_behave (functions c.members) ≡ true

abbrev pub ClassesFormed : List t.Class → Type 0
ClassesFormed [] = Unit {0}
ClassesFormed (c ∷ cs) = IsFormedClass c × ClassesFormed cs

module _ (known : Known) (heads : List Head) (sigs : List ClassSig) where
  members_kept : (k : ℕ) (d : Names) (hs : List Half) (xs : List r.Member) (us : List t.Member) → AreWhole (own_class known heads k d) hs xs → AreTypedMembers sigs k xs us → Kept hs (functions us)
  members_kept k d [] xs us h i =
      let j : us ≡ [] = subst (λ (xs : List r.Member). AreTypedMembers sigs k xs us) h i in
      subst (λ (us : List t.Member). Kept [] (functions us)) (sym j) none_kept
  members_kept k d (half_field n w len ∷ hs) xs us h i =
      let j : AreTypedMembers sigs k (h.0 ∷ h.1) us = subst (λ (xs : List r.Member). AreTypedMembers sigs k xs us) h.4 i in
      let one : j.0 ≡ t.field n w len = subst (λ (x : r.Member). IsTypedMember sigs k x j.0) h.2 j.2 in
      let rest = members_kept k d hs h.1 j.1 h.3 j.3 in
      subst (λ (us : List t.Member). Kept (half_field n w len ∷ hs) (functions us)) (sym (j.4 ∙ ap (λ (u : t.Member). u ∷ j.1) one)) (record { formed = λ f. rest.formed f.1; behave = λ e. rest.behave e })
  members_kept k d (half_function f ∷ hs) xs us h i =
      let j : AreTypedMembers sigs k (h.0 ∷ h.1) us = subst (λ (xs : List r.Member). AreTypedMembers sigs k xs us) h.4 i in
      let one : IsTypedMember sigs k (r.function f.of f.word f.params h.2.0) j.0 = subst (λ (x : r.Member). IsTypedMember sigs k x j.0) h.2.2 j.2 in
      let rest = members_kept k d hs h.1 j.1 h.3 j.3 in
      let more : Kept (half_function f ∷ hs) (functions (t.function f.of f.word f.params one.0 ∷ j.1)) = record {
        formed = λ g. ((g.0.0, omega (arith, g.0.1, params_long f.params)), rest.formed g.1);
        behave = λ e. named_first (bytes_eq f.word.name (codes "behave")) (is_nothing f.of.ty) (no_params f.params) (list_any is_behave hs) (list_any is_named_behave (functions j.1)) rest.behave e;
      } in
      subst (λ (us : List t.Member). Kept (half_function f ∷ hs) (functions us)) (sym (j.4 ∙ ap (λ (u : t.Member). u ∷ j.1) one.5)) more

  classes_kept : (k : ℕ) (hs : List HalfClass) (cs : List r.Class) (us : List t.Class) → AreClasses known heads k hs cs → AreTypedClasses sigs k cs us → ClassesHalf hs → AllBehave hs → ClassesFormed us
  classes_kept k [] cs us h i half b =
      let j : us ≡ [] = subst (λ (cs : List r.Class). AreTypedClasses sigs k cs us) h i in
      subst ClassesFormed (sym j) tt
  classes_kept k (x ∷ hs) cs us h i half b =
      let j : AreTypedClasses sigs k (record { quark = x.quark; word = x.word; members = h.0 } ∷ h.1) us = subst (λ (cs : List r.Class). AreTypedClasses sigs k cs us) h.4 i in
      let kept = members_kept k x.names x.members h.0 j.0 h.2 j.2 in
      let here : IsFormedClass (record { quark = x.quark; word = x.word; members = j.0 }) = record {
        formed = kept.formed half.0;
        behave = λ e. kept.behave (or_second x.quark (list_any is_behave x.members) b.0 e);
      } in
      subst ClassesFormed (sym j.4) (here, classes_kept (k + 1) hs h.1 j.1 h.3 j.3 half.1 b.1)

-- the typed classes of formed items
pub typed_formed : (xs : List raw.Item) (cs : List r.Class) (us : List t.Class) → ItemsFormed xs → IsResolved xs cs → IsTypedProgram cs us → ClassesFormed us
typed_formed xs cs us f h i = classes_kept h.known _ (map class_sig cs) 0 h.halves cs us h.whole i (items_half h.known xs h.halves h.declared f) h.behave

-- Functions by their numbers

function_found : (fs : List Function) (n : ℕ) (f : Function) → FunctionsFormed fs → slice_get fs n ≡ Some f → IsFormedFunction (slice_index_or fs n no_function)
function_found [] n f all e = cc
function_found (g ∷ fs) zero f all e = all.0
function_found (g ∷ fs) (suc n) f all e = function_found fs n f all.1 e

behave_found : (fs : List Function) → FunctionsFormed fs → list_any is_named_behave fs ≡ true → IsFormedFunction (slice_index_or fs (number_named (codes "behave") fs) no_function)
behave_found [] all e = cc
behave_found (g ∷ fs) all e = on (is_named_behave g) e (λ h. behave_found fs all.1 h)
  where
    on : (b : Bool) → (b || list_any is_named_behave fs) ≡ true → (list_any is_named_behave fs ≡ true → IsFormedFunction (slice_index_or fs (number_named (codes "behave") fs) no_function)) → IsFormedFunction (slice_index_or (g ∷ fs) (if b then 0 else suc (number_named (codes "behave") fs)) no_function)
    on true h rest = all.0
    on false h rest = rest h

class_formed : (us : List t.Class) (c : ℕ) → ClassesFormed us → FunctionsFormed (functions (members_at us c))
class_formed [] c all = tt
class_formed (u ∷ us) zero all = all.0.formed
class_formed (u ∷ us) (suc c) all = class_formed us c all.1

element_formed : (us : List t.Class) (c : ℕ) (u : t.Class) → ClassesFormed us → slice_get us c ≡ Some u → u.quark ≡ false → list_any is_named_behave (functions (members_at us c)) ≡ true
element_formed [] c u all at q = cc
element_formed (x ∷ us) zero u all at q = let same : x ≡ u = cc in all.0.behave (ap (λ (y : t.Class). y.quark) same ∙ q)
element_formed (x ∷ us) (suc c) u all at q = element_formed us c u all.1 at q

-- the function of a key has a name and few parameters
abbrev pub IsFormedKey : Program → Key → Type 0
IsFormedKey g f = IsFormedFunction (function_of g f)

pub key_formed : (g : Program) (f : Key) (fn : Function) → ClassesFormed g.classes → slice_get (functions (members_of g f.class)) f.function ≡ Some fn → IsFormedKey g f
unfolding function_at
key_formed g f fn all at = function_found (functions (members_of g f.class)) f.function fn (class_formed g.classes f.class all) at

pub behave_formed : (g : Program) (c : ℕ) (u : t.Class) → ClassesFormed g.classes → slice_get g.classes c ≡ Some u → u.quark ≡ false → IsFormedKey g (behave_key g c)
unfolding function_at behave_of
behave_formed g c u all at q = behave_found (functions (members_of g c)) (class_formed g.classes c all) (element_formed g.classes c u all at q)
