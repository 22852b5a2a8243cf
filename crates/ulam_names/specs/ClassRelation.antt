-- Which program is a resolution of files: one case for each form of the tree, and no order in which rules are tried.
use Rattle.std.specs.Prelude.{ℕ, ◌+◌, ◌≡◌, ◌<◌, List, [], ◌∷◌, ◌++◌, length, map, Option, Some, None, is_some, option_map, Bool, true, false, ◌&&◌, if◌then◌else◌, int_le, ℤ, pos, neg_ℤ, unsigned_abs}
use Rattle.sat_math.specs.declared.NumType.{NumType}
use Rattle.ulam_tree.specs.declared.resolved.Named.{Named}
use Rattle.ulam_tree.specs.Raw as t
use Rattle.ulam_tree.specs.Resolved as r
use Rattle.ulam_names.specs.Scopes.{Text, Names, no_names, declares_name, small_names, Value, Head, is_among, names_of, beside, as_number, is_truth}
use Rattle.feast_base.specs.declared.limits.TheConstants.{MOST_PARAMS}
use Rattle.ulam_names.specs.declared.limits.TheConstants.{MOST_CLASSES, MOST_MEMBERS}
use Rattle.ulam_names.specs.Classes.{Known, Half, HalfClass, half_field, half_function, is_built_in, basics, values, takes_value, may_be_member, may_use, head_of, behaves, holds_itself, context_of, scope_of}
use Rattle.bit_field.specs.declared.TheConstants.{STATE_BITS}
use Rattle.ulam_names.specs.Relation.{IsWidth, IsType, IsBody}

-- each class name is new and not built in, and there are not too many
abbrev pub AreKnown : Known → List t.Item → Known → Type 0
AreKnown done [] known = known ≡ done
AreKnown done (t.ulam n ∷ xs) known = AreKnown done xs known
AreKnown done (t.uses w ∷ xs) known = AreKnown done xs known
AreKnown done (t.class c ∷ xs) known =
    (length done < MOST_CLASSES) × (is_among c.word.name (names_of done) ≡ false) × (is_built_in c.word.name ≡ false) × AreKnown (done ++ (c.word.name, c.quark) ∷ []) xs known

abbrev pub IsMemberType : Known → Names → t.TypeRef → Named → Type 0
IsMemberType known d ty n = IsType (basics known d) (values d) ty n

-- a name may be declared in a class that has declared n names of its sort
abbrev pub IsNew : Names → ℕ → t.Word → Type 0
IsNew d n w = (n < MOST_MEMBERS) × (declares_name d w.name ≡ false)

-- a constant's value: whether it is a truth value, and its number
abbrev pub IsValue : Names → t.Const → Bool × ℤ → Type 0
IsValue d (t.const_number minus n u) v = v ≡ (false, if minus then neg_ℤ (pos n) else pos n)
IsValue d (t.const_truth b) v = v ≡ (true, if b then pos 1 else pos 0)
IsValue d (t.const_named w) v = option_map (λ (x : Value). (is_truth x.num.kind, x.value)) (beside w.name d.constants) ≡ Some v

abbrev pub IsLength : Names → Option t.Width → ℕ → Type 0
IsLength d None k = k ≡ 0
IsLength d (Some x) k = (v : ℤ) × IsWidth (values d) x v × ((int_le (pos 1) v && int_le v (pos STATE_BITS)) ≡ true) × (k ≡ unsigned_abs v)

abbrev pub AreParams : Known → Names → List Text → List t.Param → List r.Param → Type 0
AreParams known d done [] qs = qs ≡ []
AreParams known d done (p ∷ ps) qs =
    (n : Named) × (more : List r.Param) × IsMemberType known d p.of n × (length done < MOST_PARAMS) × (is_among p.word.name done ≡ false)
    × AreParams known d (done ++ p.word.name ∷ []) ps more × (qs ≡ record { of = n; word = p.word } ∷ more)

-- what a class declares after a member, and what the member is resolved to
abbrev pub IsMember : Known → Names → t.Member → Names × List Half → Type 0
IsMember known d (t.typedef ty w) x =
    (n : Named) × (num : NumType) × IsMemberType known d ty n × (as_number n.ty ≡ Some num) × IsNew d (small_names d) w × (is_built_in w.name ≡ false)
    × (x ≡ (record d { typedefs = d.typedefs ++ (w.name, num) ∷ [] }, []))
IsMember known d (t.constant ty w k) x =
    (n : Named) × (num : NumType) × (v : Bool × ℤ) × IsMemberType known d ty n × (as_number n.ty ≡ Some num) × IsNew d (small_names d) w
    × IsValue d k v × (takes_value num v ≡ true)
    × (x ≡ (record d { constants = d.constants ++ (w.name, record { num = num; value = v.1 }) ∷ [] }, []))
IsMember known d (t.field ty w k) x =
    (n : Named) × (len : ℕ) × IsMemberType known d ty n × (may_be_member known n.ty (is_some k) ≡ true)
    × IsNew d (length d.fields) w × IsLength d k len
    × (x ≡ (record d { fields = d.fields ++ (w.name, n.ty) ∷ [] }, half_field n w len ∷ []))
IsMember known d (t.function ty w ps b) x =
    (n : Named) × (qs : List r.Param) × IsMemberType known d ty n × IsNew d (length d.functions) w × AreParams known d [] ps qs
    × (x ≡ (
      record d { functions = d.functions ++ w.name ∷ [] },
      half_function (record { of = n; word = w; params = qs; body = b; typedefs = length d.typedefs; constants = length d.constants }) ∷ [],
    ))

abbrev pub AreMembers : Known → Names → List t.Member → Names × List Half → Type 0
AreMembers known d [] x = x ≡ (d, [])
AreMembers known d (m ∷ ms) x = (a : Names × List Half) × (b : Names × List Half) × IsMember known d m a × AreMembers known a.0 ms b × (x ≡ (b.0, a.1 ++ b.1))

abbrev pub AreItems : Known → List t.Item → List HalfClass → Type 0
AreItems known [] hs = hs ≡ []
AreItems known (t.ulam n ∷ xs) hs = AreItems known xs hs
AreItems known (t.uses w ∷ xs) hs = (may_use known w.name ≡ true) × AreItems known xs hs
AreItems known (t.class c ∷ xs) hs =
    (a : Names × List Half) × (more : List HalfClass) × AreMembers known no_names c.members a × AreItems known xs more
    × (hs ≡ record { quark = c.quark; word = c.word; names = a.0; members = a.1 } ∷ more)

-- each element has its function `Void behave()`
abbrev pub AllBehave : List HalfClass → Type 0
AllBehave [] = Unit {0}
AllBehave (h ∷ hs) = (behaves h ≡ true) × AllBehave hs

-- no class contains itself
abbrev pub NoneCyclic : List Head → ℕ → List HalfClass → Type 0
NoneCyclic heads k [] = Unit {0}
NoneCyclic heads k (h ∷ hs) = (holds_itself heads k ≡ false) × NoneCyclic heads (k + 1) hs

-- A class whose bodies are resolved: the names of all classes, all classes as others see them, the number of this one, and what it has declared.
pub record OwnClass : Type 0 where
  pub known : Known
  pub heads : List Head
  pub number : ℕ
  pub names : Names

abbrev pub own_class : Known → List Head → ℕ → Names → OwnClass
own_class known heads k d = record { known = known; heads = heads; number = k; names = d }

-- a member with its body resolved
abbrev pub IsWhole : OwnClass → Half → r.Member → Type 0
IsWhole own (half_field n w len) x = x ≡ r.field n w len
IsWhole own (half_function f) x =
    (b : r.Body) × IsBody (context_of own.known own.heads own.number own.names f) (scope_of own.heads f) (length f.params) f.body b × (x ≡ r.function f.of f.word f.params b)

abbrev pub AreWhole : OwnClass → List Half → List r.Member → Type 0
AreWhole own [] xs = xs ≡ []
AreWhole own (m ∷ ms) xs = (x : r.Member) × (more : List r.Member) × IsWhole own m x × AreWhole own ms more × (xs ≡ x ∷ more)

abbrev pub AreClasses : Known → List Head → ℕ → List HalfClass → List r.Class → Type 0
AreClasses known heads k [] cs = cs ≡ []
AreClasses known heads k (h ∷ hs) cs =
    (xs : List r.Member) × (more : List r.Class) × AreWhole (own_class known heads k h.names) h.members xs × AreClasses known heads (k + 1) hs more
    × (cs ≡ record { quark = h.quark; word = h.word; members = xs } ∷ more)

-- These classes are a resolution of the items of all files.
pub record IsResolved (xs : List t.Item) (cs : List r.Class) : Type 0 where
  pub known : Known
  pub halves : List HalfClass
  pub named : AreKnown [] xs known
  pub declared : AreItems known xs halves
  pub behave : AllBehave halves
  pub apart : NoneCyclic (map head_of halves) 0 halves
  pub whole : AreClasses known (map head_of halves) 0 halves cs

-- No classes are a resolution of these items.
abbrev pub HaveNoResolution : List t.Item → Type 0
HaveNoResolution xs = (cs : List r.Class) → IsResolved xs cs → ⊥
