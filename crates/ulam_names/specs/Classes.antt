-- The walk over files: all class names, the members of each class, two rules of whole classes, and then the bodies.
use Rattle.std.specs.Prelude.{ℕ, ◌+◌, List, [], ◌∷◌, ◌++◌, length, map, slice_get, Option, Some, None, is_some, option_map, Bool, true, false, not, ◌&&◌, ◌||◌, if◌then◌else◌, nat_lt, int_le, ℤ, pos, neg_ℤ, unsigned_abs, Ok, codes, flat_map, take}
use Rattle.std.specs.Option.{option_map_or}
use Rattle.std.specs.List.{list_any}
use Rattle.std.specs.Str.{bytes_eq}
use Rattle.sat_math.specs.declared.NumType.{NumType}
use Rattle.feast_base.specs.declared.place.Place.{Place}
use Rattle.ulam_tree.specs.declared.resolved.Ty.{Ty}
use Rattle.ulam_tree.specs.declared.resolved.Ty.TheVariants as y
use Rattle.ulam_tree.specs.declared.resolved.Named.{Named}
use Rattle.ulam_tree.specs.Raw as t
use Rattle.ulam_tree.specs.Resolved as r
use Rattle.ulam_tree.specs.Ways.{leads, class_number}
use Rattle.ulam_tree.specs.Found.{◌>>=◌, value_or_fault, must, fault_of}
use Rattle.ulam_names.specs.Faults.{declared_twice, unknown_name, bad_constant, too_many, bad_width, no_behave, cyclic_quark, Fault, Found}
use Rattle.ulam_names.specs.Scopes.{Text, Basic, basic_named, Head, Names, no_names, declares_name, small_names, Value, Context, Entry, Scope, is_among, names_of, beside, built_in, as_number, is_truth, in_range, inside_local}
use Rattle.feast_base.specs.declared.limits.TheConstants.{MOST_PARAMS}
use Rattle.ulam_names.specs.declared.limits.TheConstants.{MOST_CLASSES, MOST_MEMBERS}
use Rattle.ulam_names.specs.Walk.{type_named, width_value, body}
use Rattle.bit_field.specs.declared.TheConstants.{STATE_BITS}

-- the names of all classes, with whether they are quarks
abbrev pub Known : Type 0
Known = List (Text × Bool)

-- a function whose body is not resolved yet, with how many typedefs and constants its class declares before it
pub record Pending : Type 0 where
  pub of : Named
  pub word : t.Word
  pub params : List r.Param
  pub body : t.Body
  pub typedefs : ℕ
  pub constants : ℕ

pub data Half : Type 0 where
  half_field : Named → t.Word → ℕ → Half
  half_function : Pending → Half

-- a class whose members are resolved, except for the bodies of its functions
pub record HalfClass : Type 0 where
  pub quark : Bool
  pub word : t.Word
  pub names : Names
  pub members : List Half

abbrev pub is_built_in : Text → Bool
is_built_in n = is_among n (names_of built_in)

-- Class names

abbrev pub new_class : Known → t.Class → Found Known
new_class done c =
    must (nat_lt (length done) MOST_CLASSES) (too_many c.word.place) >>= λ (_ : Unit {0}).
    must (not (is_among c.word.name (names_of done) || is_built_in c.word.name)) (declared_twice c.word.place) >>= λ (_ : Unit {0}).
    Ok (done ++ (c.word.name, c.quark) ∷ [])

abbrev pub class_names : Known → List t.Item → Found Known
class_names done [] = Ok done
class_names done (t.ulam n ∷ xs) = class_names done xs
class_names done (t.uses w ∷ xs) = class_names done xs
class_names done (t.class c ∷ xs) = new_class done c >>= λ (more : Known). class_names more xs

-- Members

abbrev pub basics : Known → Names → Text → Option Basic
basics known d n = basic_named d.typedefs (names_of known) n

abbrev pub values : Names → Text → Option ℤ
values d n = option_map (λ (v : Value). v.value) (beside n d.constants)

abbrev pub member_type : Known → Names → t.TypeRef → Found Named
member_type known d ty = type_named (basics known d) (values d) ty

-- a name that is new in the class, which has declared fewer names of its sort than the limit
abbrev pub new_name : Names → ℕ → Bool → t.Word → Found (Unit {0})
new_name d n free w =
    must (nat_lt n MOST_MEMBERS) (too_many w.place) >>= λ (_ : Unit {0}).
    must (free && not (declares_name d w.name)) (declared_twice w.place)

-- a constant's value: whether it is a truth value, and its number
abbrev pub const_value : Names → t.Const → Found (Bool × ℤ)
const_value d (t.const_number minus n u) = Ok (false, if minus then neg_ℤ (pos n) else pos n)
const_value d (t.const_truth b) = Ok (true, if b then pos 1 else pos 0)
const_value d (t.const_named w) = value_or_fault (option_map (λ (v : Value). (is_truth v.num.kind, v.value)) (beside w.name d.constants)) (unknown_name w.place)

abbrev pub same_bool : Bool → Bool → Bool
same_bool true b = b
same_bool false b = not b

abbrev pub takes_value : NumType → Bool × ℤ → Bool
takes_value num v = same_bool (is_truth num.kind) v.0 && in_range num v.1

-- a type that a data member may have
abbrev pub is_member_type : Known → Ty → Bool
is_member_type known (y.Num n) = true
is_member_type known y.Window = true
is_member_type known y.Random = true
is_member_type known (y.Class k) = option_map_or (λ (p : Text × Bool). p.1) (slice_get known k) false
is_member_type known ty = false

-- whether a data member may have this type, or be an array of it
abbrev pub may_be_member : Known → Ty → Bool → Bool
may_be_member known ty array = is_member_type known ty && (not array || is_some (as_number ty))

-- an array's length, at most the bits of a state, and 0 where there is none
abbrev pub length_of : Names → Place → Option t.Width → Found ℕ
length_of d p None = Ok 0
length_of d p (Some x) =
    width_value (values d) x >>= λ (v : ℤ).
    must (int_le (pos 1) v && int_le v (pos STATE_BITS)) (bad_width p) >>= λ (_ : Unit {0}).
    Ok (unsigned_abs v)

abbrev pub params_of : Known → Names → List Text → List t.Param → Found (List r.Param)
params_of known d done [] = Ok []
params_of known d done (p ∷ ps) =
    member_type known d p.of >>= λ (n : Named).
    must (nat_lt (length done) MOST_PARAMS) (too_many p.word.place) >>= λ (_ : Unit {0}).
    must (not (is_among p.word.name done)) (declared_twice p.word.place) >>= λ (_ : Unit {0}).
    params_of known d (done ++ p.word.name ∷ []) ps >>= λ (more : List r.Param).
    Ok (record { of = n; word = p.word } ∷ more)

abbrev pub member : Known → Names → t.Member → Found (Names × List Half)
member known d (t.typedef ty w) =
    member_type known d ty >>= λ (n : Named).
    value_or_fault (as_number n.ty) (bad_width n.place) >>= λ (num : NumType).
    new_name d (small_names d) (not (is_built_in w.name)) w >>= λ (_ : Unit {0}).
    Ok (record d { typedefs = d.typedefs ++ (w.name, num) ∷ [] }, [])
member known d (t.constant ty w k) =
    member_type known d ty >>= λ (n : Named).
    value_or_fault (as_number n.ty) (bad_width n.place) >>= λ (num : NumType).
    new_name d (small_names d) true w >>= λ (_ : Unit {0}).
    const_value d k >>= λ (v : Bool × ℤ).
    must (takes_value num v) (bad_constant w.place) >>= λ (_ : Unit {0}).
    Ok (record d { constants = d.constants ++ (w.name, record { num = num; value = v.1 }) ∷ [] }, [])
member known d (t.field ty w k) =
    member_type known d ty >>= λ (n : Named).
    must (may_be_member known n.ty (is_some k)) (bad_width n.place) >>= λ (_ : Unit {0}).
    new_name d (length d.fields) true w >>= λ (_ : Unit {0}).
    length_of d w.place k >>= λ (len : ℕ).
    Ok (record d { fields = d.fields ++ (w.name, n.ty) ∷ [] }, half_field n w len ∷ [])
member known d (t.function ty w ps b) =
    member_type known d ty >>= λ (n : Named).
    new_name d (length d.functions) true w >>= λ (_ : Unit {0}).
    params_of known d [] ps >>= λ (qs : List r.Param).
    Ok (
      record d { functions = d.functions ++ w.name ∷ [] },
      half_function (record { of = n; word = w; params = qs; body = b; typedefs = length d.typedefs; constants = length d.constants }) ∷ [],
    )

abbrev pub members : Known → Names → List t.Member → Found (Names × List Half)
members known d [] = Ok (d, [])
members known d (m ∷ ms) =
    member known d m >>= λ (x : Names × List Half).
    members known x.0 ms >>= λ (z : Names × List Half).
    Ok (z.0, x.1 ++ z.1)

-- Items

abbrev pub may_use : Known → Text → Bool
may_use known n = bytes_eq n (codes "EventWindow") || bytes_eq n (codes "Random") || is_among n (names_of known)

abbrev pub half_class : Known → t.Class → Found HalfClass
half_class known c =
    members known no_names c.members >>= λ (x : Names × List Half).
    Ok (record { quark = c.quark; word = c.word; names = x.0; members = x.1 })

abbrev pub item : Known → t.Item → Found (List HalfClass)
item known (t.ulam n) = Ok []
item known (t.uses w) = must (may_use known w.name) (unknown_name w.place) >>= λ (_ : Unit {0}). Ok []
item known (t.class c) = half_class known c >>= λ (h : HalfClass). Ok (h ∷ [])

abbrev pub items : Known → List t.Item → Found (List HalfClass)
items known [] = Ok []
items known (x ∷ xs) = item known x >>= λ (hs : List HalfClass). items known xs >>= λ (more : List HalfClass). Ok (hs ++ more)

-- Rules of whole classes

abbrev pub head_of : HalfClass → Head
head_of h = record { name = h.word.name; quark = h.quark; fields = h.names.fields; functions = h.names.functions }

abbrev pub is_nothing : Ty → Bool
is_nothing y.Nothing = true
is_nothing ty = false

abbrev pub no_params : List r.Param → Bool
no_params [] = true
no_params (p ∷ ps) = false

abbrev pub is_behave : Half → Bool
is_behave (half_field n w k) = false
is_behave (half_function f) = bytes_eq f.word.name (codes "behave") && is_nothing f.of.ty && no_params f.params

abbrev pub behaves : HalfClass → Bool
behaves h = h.quark || list_any is_behave h.members

abbrev pub all_behave : List HalfClass → Found (Unit {0})
all_behave [] = Ok tt
all_behave (h ∷ hs) = must (behaves h) (no_behave h.word.place) >>= λ (_ : Unit {0}). all_behave hs

-- the classes that the data members of a class have as types
abbrev pub parts_of : List Head → ℕ → List ℕ
parts_of heads k = option_map_or (λ (h : Head). flat_map (λ (p : Text × Ty). class_number p.1) h.fields) (slice_get heads k) []

-- A class contains itself, directly or through other classes. A step goes from a class to the class of one of its data members, and no more steps are needed than there are classes. No data member has an element as its type, so a class that contains itself is a quark.
abbrev pub holds_itself : List Head → ℕ → Bool
holds_itself heads k = leads (parts_of heads) (length heads) k k

abbrev pub none_cyclic : List Head → ℕ → List HalfClass → Found (Unit {0})
none_cyclic heads k [] = Ok tt
none_cyclic heads k (h ∷ hs) = must (not (holds_itself heads k)) (cyclic_quark h.word.place) >>= λ (_ : Unit {0}). none_cyclic heads (k + 1) hs

-- Bodies

-- parameters with their slots, in the order in which they are declared
abbrev pub param_entries : List Head → ℕ → List r.Param → List Entry
param_entries heads i [] = []
param_entries heads i (p ∷ ps) = record { name = p.word.name; slot = Some i; inside = inside_local heads p.of.ty } ∷ param_entries heads (i + 1) ps

-- What the names in a function's body are looked up in. It sees the typedefs and constants that its class declares before it.
abbrev pub context_of : Known → List Head → ℕ → Names → Pending → Context
context_of known heads k d f = record {
  heads = heads;
  classes = names_of known;
  own = k;
  typedefs = take f.typedefs d.typedefs;
  constants = take f.constants d.constants;
  params = length f.params;
}

abbrev pub scope_of : List Head → Pending → Scope
scope_of heads f = record { entries = param_entries heads 0 f.params; from = 0 }

abbrev pub whole_member : Known → List Head → ℕ → Names → Half → Found r.Member
whole_member known heads k d (half_field n w len) = Ok (r.field n w len)
whole_member known heads k d (half_function f) =
    body (context_of known heads k d f) (scope_of heads f) (length f.params) f.body >>= λ (b : r.Body).
    Ok (r.function f.of f.word f.params b)

abbrev pub whole_members : Known → List Head → ℕ → Names → List Half → Found (List r.Member)
whole_members known heads k d [] = Ok []
whole_members known heads k d (m ∷ ms) =
    whole_member known heads k d m >>= λ (x : r.Member).
    whole_members known heads k d ms >>= λ (xs : List r.Member).
    Ok (x ∷ xs)

abbrev pub whole_class : Known → List Head → ℕ → HalfClass → Found r.Class
whole_class known heads k h =
    whole_members known heads k h.names h.members >>= λ (xs : List r.Member).
    Ok (record { quark = h.quark; word = h.word; members = xs })

abbrev pub whole_classes : Known → List Head → ℕ → List HalfClass → Found (List r.Class)
whole_classes known heads k [] = Ok []
whole_classes known heads k (h ∷ hs) =
    whole_class known heads k h >>= λ (c : r.Class).
    whole_classes known heads (k + 1) hs >>= λ (cs : List r.Class).
    Ok (c ∷ cs)

-- All classes of the items of all files, or the first fault.
abbrev pub program : List t.Item → Found (List r.Class)
program xs =
    class_names [] xs >>= λ (known : Known).
    items known xs >>= λ (hs : List HalfClass).
    all_behave hs >>= λ (_ : Unit {0}).
    none_cyclic (map head_of hs) 0 hs >>= λ (_ : Unit {0}).
    whole_classes known (map head_of hs) 0 hs

-- the first fault of the items of all files
abbrev pub first_fault : List t.Item → Option Fault
first_fault xs = fault_of (program xs)
