-- What is declared in a class: widths, numbers, how many parameters, and which functions are named `behave`.
use Rattle.std.proofs.Common.{◌≡◌, ◌+◌, ◌≤◌, ◌⊎◌, inl, inr, Bool, true, false, ◌&&◌, List, [], ◌∷◌, ◌++◌, map, length, codes, refl, sym, ap, ◌∙◌, subst, append_assoc, arith}
use Rattle.std.specs.Prelude.{◌||◌}
use Rattle.std.specs.List.{list_any}
use Rattle.std.specs.Str.{bytes_eq}
use Rattle.std.proofs.lemmas.List.{append-nil, map-append, length-append}
use Rattle.std.proofs.lemmas.List.Folds.{list_any-append}
use Rattle.std.proofs.lemmas.Slice.Eq.{bytes_eq-Decides}
use Rattle.ulam_names.proofs.Members.{new_function}
use Rattle.list_laws.proofs.Tests.{both, or_second}
use Rattle.ulam_tree.specs.declared.resolved.Ty.{Ty}
use Rattle.ulam_tree.specs.declared.resolved.Ty.TheVariants as y
use Rattle.ulam_tree.specs.Raw as raw
use Rattle.ulam_tree.specs.Resolved as r
use Rattle.ulam_names.specs.Scopes.{Text, Names, no_names, declares_name, is_among, names_of, is_truth, in_range}
use Rattle.ulam_names.specs.Classes.{Known, Half, half_field, half_function, HalfClass, Pending, values, same_bool, is_behave, is_nothing, no_params}
use Rattle.ulam_names.specs.ClassRelation.{AreParams, IsMember, AreMembers, AreItems, AllBehave}
use Rattle.code_gen.specs.Named.{IsWide, AllWide}
use Rattle.source_laws.proofs.Widths.{Each, each_more, FitsNum, FitsValue, type_wide, number_wide, value_fits}

-- the types of data members by their names, and of those among what a class declares
abbrev pub name_types : List (Text × Ty) → List Ty
name_types ps = map (λ (p : Text × Ty). p.1) ps

abbrev pub half_types : List Half → List Ty
half_types [] = []
half_types (half_field n w len ∷ hs) = n.ty ∷ half_types hs
half_types (half_function f ∷ hs) = half_types hs

abbrev pub param_types : List r.Param → List Ty
param_types ps = map (λ (p : r.Param). p.of.ty) ps

abbrev pub IsGoodHalf : Half → Type 0
IsGoodHalf (half_field n w len) = IsWide n.ty
IsGoodHalf (half_function f) = IsWide f.of.ty × AllWide (param_types f.params) × (length f.params ≤ 8)

abbrev pub AllGood : List Half → Type 0
AllGood [] = Unit {0}
AllGood (x ∷ xs) = IsGoodHalf x × AllGood xs

pub record GoodNames (d : Names) : Type 0 where
  pub typedefs : Each FitsNum d.typedefs
  pub constants : Each FitsValue d.constants

-- what is declared after some names
record Adds (d : Names) (x : Names × List Half) : Type 0 where
  names : GoodNames x.0
  halves : AllGood x.1
  types : name_types x.0.fields ≡ name_types d.fields ++ half_types x.1

params_good : (known : Known) (d : Names) (done : List Text) (ps : List raw.Param) (qs : List r.Param) → GoodNames d → length done ≤ 8 → AreParams known d done ps qs → AllWide (param_types qs) × (length done + length qs ≤ 8)
params_good known d done [] qs g le h = subst (λ (qs : List r.Param). AllWide (param_types qs) × (length done + length qs ≤ 8)) (sym h) (tt, omega (arith, le))
params_good known d done (p ∷ ps) qs g le h =
    let long : length (done ++ p.word.name ∷ []) ≡ length done + 1 = length-append done (p.word.name ∷ []) in
    let more = params_good known d (done ++ p.word.name ∷ []) ps h.1 g (omega (arith, long, h.3)) h.5 in
    subst (λ (qs : List r.Param). AllWide (param_types qs) × (length done + length qs ≤ 8)) (sym h.6) ((type_wide d.typedefs (names_of known) (values d) p.of h.0 g.typedefs h.2, more.0), omega (arith, long, more.1))

member_adds : (known : Known) (d : Names) (m : raw.Member) (x : Names × List Half) → GoodNames d → IsMember known d m x → Adds d x
member_adds known d (raw.typedef ty w) x g h =
    let wide = type_wide d.typedefs (names_of known) (values d) ty h.0 g.typedefs h.2 in
    subst (Adds d) (sym h.6) (record {
      names = record { typedefs = each_more FitsNum d.typedefs w.name h.1 g.typedefs (number_wide h.0.ty h.1 h.3 wide); constants = g.constants };
      halves = tt;
      types = sym (append-nil (name_types d.fields));
    })
member_adds known d (raw.constant ty w c) x g h =
    let num = h.1 in
    let fits = number_wide h.0.ty num h.4 (type_wide d.typedefs (names_of known) (values d) ty h.0 g.typedefs h.3) in
    let value = value_fits num h.2.1 fits (both (same_bool (is_truth num.kind) h.2.0) (in_range num h.2.1) h.7).1 in
    subst (Adds d) (sym h.8) (record {
      names = record { typedefs = g.typedefs; constants = each_more FitsValue d.constants w.name (record { num = num; value = h.2.1 }) g.constants (fits, value) };
      halves = tt;
      types = sym (append-nil (name_types d.fields));
    })
member_adds known d (raw.field ty w len) x g h =
    subst (Adds d) (sym h.6) (record {
      names = record { typedefs = g.typedefs; constants = g.constants };
      halves = (type_wide d.typedefs (names_of known) (values d) ty h.0 g.typedefs h.2, tt);
      types = map-append (λ (p : Text × Ty). p.1) d.fields ((w.name, h.0.ty) ∷ []);
    })
member_adds known d (raw.function ty w ps b) x g h =
    let good = params_good known d [] ps h.1 g (omega arith) h.4 in
    subst (Adds d) (sym h.5) (record {
      names = record { typedefs = g.typedefs; constants = g.constants };
      halves = ((type_wide d.typedefs (names_of known) (values d) ty h.0 g.typedefs h.2, good.0, omega (arith, good.1)), tt);
      types = sym (append-nil (name_types d.fields));
    })

good_both : (xs zs : List Half) → AllGood xs → AllGood zs → AllGood (xs ++ zs)
good_both [] zs h g = g
good_both (x ∷ xs) zs h g = (h.0, good_both xs zs h.1 g)

types_both : (xs zs : List Half) → half_types (xs ++ zs) ≡ half_types xs ++ half_types zs
types_both [] zs = refl
types_both (half_field n w len ∷ xs) zs = ap (λ l. n.ty ∷ l) (types_both xs zs)
types_both (half_function f ∷ xs) zs = types_both xs zs

members_add : (known : Known) (d : Names) (ms : List raw.Member) (x : Names × List Half) → GoodNames d → AreMembers known d ms x → Adds d x
members_add known d [] x g h = subst (Adds d) (sym h) (record { names = g; halves = tt; types = sym (append-nil (name_types d.fields)) })
members_add known d (m ∷ ms) x g h =
    let one = member_adds known d m h.0 g h.2 in
    let more = members_add known h.0.0 ms h.1 one.names h.3 in
    subst (Adds d) (sym h.4) (record {
      names = more.names;
      halves = good_both h.0.1 h.1.1 one.halves more.halves;
      types = more.types ∙ ap (λ l. l ++ half_types h.1.1) one.types ∙ append_assoc (name_types d.fields) (half_types h.0.1) (half_types h.1.1) ∙ ap (λ l. name_types d.fields ++ l) (sym (types_both h.0.1 h.1.1));
    })

-- `behave`

abbrev is_named_behave : Pending → Bool
is_named_behave f = bytes_eq f.word.name (codes "behave")

-- The first function of this name has no parameters and no result.
abbrev pub FirstBehaves : List Half → Type 0
FirstBehaves [] = ⊥
FirstBehaves (half_field n w len ∷ hs) = FirstBehaves hs
FirstBehaves (half_function f ∷ hs) = ((is_named_behave f ≡ true) × (f.of.ty ≡ y.Nothing) × (f.params ≡ [])) ⊎ ((is_named_behave f ≡ false) × FirstBehaves hs)

abbrev has_behave : Names → Bool
has_behave d = is_among (codes "behave") d.functions

behave_stays : (names : List Text) (name : Text) → is_among (codes "behave") names ≡ true → is_among (codes "behave") (names ++ name ∷ []) ≡ true
behave_stays names name h = list_any-append (bytes_eq (codes "behave")) names (name ∷ []) ∙ ap (λ b. b || (bytes_eq (codes "behave") name || false)) h

or_last : (a : Bool) → (a || (true || false)) ≡ true
or_last true = refl
or_last false = refl

behave_added : (names : List Text) (name : Text) → bytes_eq name (codes "behave") ≡ true → is_among (codes "behave") (names ++ name ∷ []) ≡ true
behave_added names name h =
    let same = sym ((bytes_eq-Decides name (codes "behave")).0 h) in
    let is = (bytes_eq-Decides (codes "behave") name).1 same in
    list_any-append (bytes_eq (codes "behave")) names (name ∷ []) ∙ ap (λ b. is_among (codes "behave") names || (b || false)) is ∙ or_last (is_among (codes "behave") names)

-- no second function is named so
not_again : (d : Names) (w : raw.Word) → has_behave d ≡ true → declares_name d w.name ≡ false → bytes_eq w.name (codes "behave") ≡ false
not_again d w has new = go (bytes_eq w.name (codes "behave")) refl
  where
    go : (b : Bool) → bytes_eq w.name (codes "behave") ≡ b → b ≡ false
    go false e = refl
    go true e =
        let same = (bytes_eq-Decides w.name (codes "behave")).0 e in
        let none = new_function d w.name new in
        sym has ∙ ap (λ (name : Text). is_among name d.functions) (sym same) ∙ none

-- behind a function that is named so
behind_one : (known : Known) (d : Names) (m : raw.Member) (x : Names × List Half) → has_behave d ≡ true → IsMember known d m x → (has_behave x.0 ≡ true) × (list_any is_behave x.1 ≡ false)
behind_one known d (raw.typedef ty w) x has h = subst (λ (x : Names × List Half). (has_behave x.0 ≡ true) × (list_any is_behave x.1 ≡ false)) (sym h.6) (has, refl)
behind_one known d (raw.constant ty w c) x has h = subst (λ (x : Names × List Half). (has_behave x.0 ≡ true) × (list_any is_behave x.1 ≡ false)) (sym h.8) (has, refl)
behind_one known d (raw.field ty w len) x has h = subst (λ (x : Names × List Half). (has_behave x.0 ≡ true) × (list_any is_behave x.1 ≡ false)) (sym h.6) (has, refl)
behind_one known d (raw.function ty w ps b) x has h =
    let other = not_again d w has h.3.1 in
    subst (λ (x : Names × List Half). (has_behave x.0 ≡ true) × (list_any is_behave x.1 ≡ false)) (sym h.5) (behave_stays d.functions w.name has, rw other refl)

none_behind : (known : Known) (d : Names) (ms : List raw.Member) (x : Names × List Half) → has_behave d ≡ true → AreMembers known d ms x → list_any is_behave x.1 ≡ false
none_behind known d [] x has h = subst (λ (x : Names × List Half). list_any is_behave x.1 ≡ false) (sym h) refl
none_behind known d (m ∷ ms) x has h =
    let one = behind_one known d m h.0 has h.2 in
    let more = none_behind known h.0.0 ms h.1 one.0 h.3 in
    subst (λ (x : Names × List Half). list_any is_behave x.1 ≡ false) (sym h.4) (list_any-append is_behave h.0.1 h.1.1 ∙ ap (λ b. b || list_any is_behave h.1.1) one.1 ∙ more)

nothing_is : (ty : Ty) → is_nothing ty ≡ true → ty ≡ y.Nothing
nothing_is y.Nothing e = refl
nothing_is ty e = cc

none_are : (ps : List r.Param) → no_params ps ≡ true → ps ≡ []
none_are [] e = refl
none_are (p ∷ ps) e = cc

first_function : (f : Pending) (back : List Half) → (list_any is_behave back ≡ true → FirstBehaves back) → (is_named_behave f ≡ true → list_any is_behave back ≡ false) → list_any is_behave (half_function f ∷ back) ≡ true → FirstBehaves (half_function f ∷ back)
first_function f back rest none any = go (is_named_behave f) refl (is_nothing f.of.ty) refl (no_params f.params) refl any
  where
    go : (a : Bool) → is_named_behave f ≡ a → (b : Bool) → is_nothing f.of.ty ≡ b → (c : Bool) → no_params f.params ≡ c → ((a && b && c) || list_any is_behave back) ≡ true → FirstBehaves (half_function f ∷ back)
    go false e b g c h any = inr (e, rest any)
    go true e true g true h any = inl (e, nothing_is f.of.ty g, none_are f.params h)
    go true e false g c h any = absurd (cc (none e, any))
    go true e true g false h any = absurd (cc (none e, any))

first_one : (known : Known) (d : Names) (m : raw.Member) (x : Names × List Half) (back : List Half) → IsMember known d m x → (list_any is_behave back ≡ true → FirstBehaves back) → (has_behave x.0 ≡ true → list_any is_behave back ≡ false) →
    list_any is_behave (x.1 ++ back) ≡ true → FirstBehaves (x.1 ++ back)
first_one known d (raw.typedef ty w) x back h rest none = subst (λ (x : Names × List Half). list_any is_behave (x.1 ++ back) ≡ true → FirstBehaves (x.1 ++ back)) (sym h.6) rest
first_one known d (raw.constant ty w c) x back h rest none = subst (λ (x : Names × List Half). list_any is_behave (x.1 ++ back) ≡ true → FirstBehaves (x.1 ++ back)) (sym h.8) rest
first_one known d (raw.field ty w len) x back h rest none = subst (λ (x : Names × List Half). list_any is_behave (x.1 ++ back) ≡ true → FirstBehaves (x.1 ++ back)) (sym h.6) rest
first_one known d (raw.function ty w ps b) x back h rest none =
    subst (λ (x : Names × List Half). (has_behave x.0 ≡ true → list_any is_behave back ≡ false) → list_any is_behave (x.1 ++ back) ≡ true → FirstBehaves (x.1 ++ back)) (sym h.5)
    (λ no any. first_function (record { of = h.0; word = w; params = h.1; body = b; typedefs = length d.typedefs; constants = length d.constants }) back rest (λ e. no (behave_added d.functions w.name e)) any) none

-- where a function behaves, the first one of the name does
first_behaves : (known : Known) (d : Names) (ms : List raw.Member) (x : Names × List Half) → AreMembers known d ms x → list_any is_behave x.1 ≡ true → FirstBehaves x.1
first_behaves known d [] x h = subst (λ (x : Names × List Half). list_any is_behave x.1 ≡ true → FirstBehaves x.1) (sym h) (λ e. cc)
first_behaves known d (m ∷ ms) x h =
    subst (λ (x : Names × List Half). list_any is_behave x.1 ≡ true → FirstBehaves x.1) (sym h.4)
    (first_one known d m h.0 h.1.1 h.2 (first_behaves known h.0.0 ms h.1 h.3) (λ has. none_behind known h.0.0 ms h.1 has h.3))

-- Classes

pub record GoodClass (h : HalfClass) : Type 0 where
  pub names : GoodNames h.names
  pub members : AllGood h.members
  pub types : name_types h.names.fields ≡ half_types h.members
  pub behave : h.quark ≡ false → FirstBehaves h.members

abbrev pub AllGoodClasses : List HalfClass → Type 0
AllGoodClasses [] = Unit {0}
AllGoodClasses (h ∷ hs) = GoodClass h × AllGoodClasses hs

class_good : (known : Known) (c : raw.Class) (a : Names × List Half) → AreMembers known no_names c.members a → (c.quark || list_any is_behave a.1) ≡ true → GoodClass (record { quark = c.quark; word = c.word; names = a.0; members = a.1 })
class_good known c a h b =
    let x = members_add known no_names c.members a (record { typedefs = tt; constants = tt }) h in
    record { names = x.names; members = x.halves; types = x.types; behave = λ e. first_behaves known no_names c.members a h (or_second c.quark (list_any is_behave a.1) b e) }

pub classes_good : (known : Known) (xs : List raw.Item) (hs : List HalfClass) → AreItems known xs hs → AllBehave hs → AllGoodClasses hs
classes_good known [] hs h = subst (λ (hs : List HalfClass). AllBehave hs → AllGoodClasses hs) (sym h) (λ b. tt)
classes_good known (raw.ulam n ∷ xs) hs h = classes_good known xs hs h
classes_good known (raw.uses w ∷ xs) hs h = classes_good known xs hs h.1
classes_good known (raw.class c ∷ xs) hs h =
    subst (λ (hs : List HalfClass). AllBehave hs → AllGoodClasses hs) (sym h.4) (λ b. (class_good known c h.0 h.2 b.0, classes_good known xs h.1 h.3 b.1))
