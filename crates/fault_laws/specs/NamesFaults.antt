-- What holds at the place of a fault of names, for each code in the words of its rule.
use Rattle.std.specs.Prelude.{ℕ, ◌≡◌, ◌≢◌, ◌≤◌, ◌⊎◌, List, [], ◌∷◌, ◌++◌, map, length, filter, slice_get, Option, Some, None, is_some, Bool, false, ◌&&◌, IsTrue, Contains, codes, ℤ, pos, int_le}
use Rattle.feast_base.specs.declared.place.Place.{Place}
use Rattle.feast_base.specs.Places.{no_place}
use Rattle.sat_math.specs.declared.NumType.{NumType}
use Rattle.sat_math.specs.declared.Kind.{Kind}
use Rattle.ulam_tree.specs.declared.resolved.Ty.{Ty}
use Rattle.ulam_tree.specs.declared.resolved.Ty.TheVariants as y
use Rattle.ulam_tree.specs.declared.resolved.Named.{Named}
use Rattle.ulam_tree.specs.Raw.{Word, TypeRef, Width, wide_as, Path, Param, Body, Const, Member, constant, field, function, Class, Item, uses}
use Rattle.ulam_heirs.specs.Flat.{member_word, member_type, is_function, is_field}
use Rattle.bit_field.specs.declared.TheConstants.{STATE_BITS}
use Rattle.ulam_names.specs.Faults as fault
use Rattle.feast_base.specs.declared.limits.TheConstants.{MOST_PARAMS}
use Rattle.ulam_names.specs.declared.limits.TheConstants.{MOST_CLASSES, MOST_LOCALS, MOST_MEMBERS}
use Rattle.ulam_names.specs.declared.basic.Basic.{Basic}
use Rattle.ulam_names.specs.declared.basic.Basic.TheVariants.{Sized as sized, Whole as whole}
use Rattle.ulam_names.specs.Scopes.{Text, Names, no_names, Context, names_of, built_in, allows, as_number, is_truth, in_range, next_name}
use Rattle.ulam_names.specs.Classes.{Known, Half, HalfClass, head_of, basics, values}
use Rattle.ulam_names.specs.Relation.{IsWidth}
use Rattle.ulam_names.specs.ClassRelation.{AreKnown, AreMembers, AreItems, IsMemberType, IsValue}
use Rattle.fault_laws.specs.NamesText.{EntryOf, Lacks, MemberOf, classes_of, class_names, member_names, param_names, is_typedef, is_small, names_by, params_in, types_in, own_constant, types_known, constants_known}
use Rattle.fault_laws.specs.NamesBodies.{Use, of_type, of_class, of_path, Local, Mention, used, declared, local_names, body_names, locals_in, first_sight, leads_to}

-- what members of a class mean that no rule refuses
pub record Meaning (items : List Item) (before : List Member) : Type 0 where
  pub known : Known
  pub names : Names
  pub halves : List Half
  pub classes : AreKnown [] items known
  pub declared : AreMembers known no_names before (names, halves)

-- a function of a class, where no rule refuses any member of any class
pub record FunctionOf (items : List Item) : Type 0 where
  pub spot : MemberOf items
  pub of : TypeRef
  pub word : Word
  pub params : List Param
  pub body : Body
  pub is : spot.at.here ≡ function of word params body
  pub means : Meaning items spot.at.before
  pub halves : List HalfClass
  pub members : AreItems means.known items halves

-- what the names in its body are looked up in, besides its locals
abbrev pub context_in : {items : List Item} → FunctionOf items → Context
context_in f = record {
  heads = map head_of f.halves;
  classes = names_of f.means.known;
  own = f.spot.number;
  typedefs = f.means.names.typedefs;
  constants = f.means.names.constants;
  params = length f.params;
}

-- the names in its body
abbrev pub names_in : {items : List Item} → FunctionOf items → List Mention
names_in f = body_names (context_in f) (first_sight (context_in f) f.params) f.body

-- the names of its class with which a path in it may begin
abbrev pub names_of_class : {items : List Item} → FunctionOf items → List Text
names_of_class f = names_by is_field f.spot.home.members ++ names_by is_function f.spot.home.members ++ constants_known f.spot.at.before

-- 30: a name is declared twice in one scope, or is that of a built-in type

pub data IsDoubled (items : List Item) (p : Place) : Type 0 where
  -- a class before it has the name, or the name is built in
  class_again : (at : EntryOf Class (classes_of items)) → at.here.word.place ≡ p → Contains (class_names at.before ++ names_of built_in) at.here.word.name → IsDoubled items p
  -- a member before it in the class has the name
  member_again : (m : MemberOf items) → (member_word m.at.here).place ≡ p → Contains (member_names m.at.before) (member_word m.at.here).name → IsDoubled items p
  typedef_built_in : (m : MemberOf items) → (member_word m.at.here).place ≡ p → IsTrue (is_typedef m.at.here) → Contains (names_of built_in) (member_word m.at.here).name → IsDoubled items p
  -- a parameter before it has the name
  param_again : (m : MemberOf items) (at : EntryOf Param (params_in m.at.here)) → at.here.word.place ≡ p → Contains (param_names at.before) at.here.word.name → IsDoubled items p
  -- a parameter or a local before it in its scope has the name
  local_again : (f : FunctionOf items) (at : EntryOf Mention (names_in f)) (w : Word) (around own : List Local) →
      at.here ≡ declared (record { around = around; own = own }) w → w.place ≡ p → Contains (map (λ (l : Local). l.name) own) w.name → IsDoubled items p

-- 31: a name is not in scope, or is no member of what stands before it

-- a type with its width: `hidden` are the names of locals, which hide constants
pub data IsUnknownType (types hidden constants : List Text) (x : TypeRef) (p : Place) : Type 0 where
  no_type : x.word.place ≡ p → Lacks types x.word.name → IsUnknownType types hidden constants x p
  no_constant : (w : Word) → x.width ≡ Some (wide_as w) → w.place ≡ p → Lacks constants w.name → IsUnknownType types hidden constants x p
  hidden_constant : (w : Word) → x.width ≡ Some (wide_as w) → w.place ≡ p → Contains hidden w.name → IsUnknownType types hidden constants x p

-- a path, where names of these locals and of the class may begin it; the one that no text has has no name
pub data IsUnknownPath (c : Context) (locals : List Local) (own : List Text) (x : Path) (p : Place) : Type 0 where
  no_name : x.own ≡ None → x.words ≡ [] → no_place ≡ p → IsUnknownPath c locals own x p
  no_start : (w : Word) (more : List Word) → x.own ≡ None → x.words ≡ w ∷ more → w.place ≡ p → Lacks (local_names locals) w.name → Lacks own w.name → IsUnknownPath c locals own x p
  no_part : (at : EntryOf Word x.words) (ty : Ty) → at.here.place ≡ p → leads_to c locals x.own at.before ≡ Some ty → next_name c.heads ty at.here.name ≡ None → IsUnknownPath c locals own x p

-- a name that is used in the body of a function
abbrev pub IsUnknownUse : {items : List Item} → FunctionOf items → List Local → Use → Place → Type 0
IsUnknownUse {items = items} f locals (of_type x) p = IsUnknownType (types_known items f.spot.at.before) (local_names locals) (constants_known f.spot.at.before) x p
IsUnknownUse {items = items} f locals (of_class w) p = (w.place ≡ p) × Lacks (types_known items f.spot.at.before) w.name
IsUnknownUse {items = items} f locals (of_path x) p = IsUnknownPath (context_in f) locals (names_of_class f) x p

pub data IsUnknown (items : List Item) (p : Place) : Type 0 where
  -- `use` names no class, and neither of the two built-in ones
  no_class : (w : Word) → Contains items (uses w) → w.place ≡ p → Lacks (codes "EventWindow" ∷ codes "Random" ∷ class_names (classes_of items)) w.name → IsUnknown items p
  in_type : (m : MemberOf items) (x : TypeRef) → Contains (types_in m.at.here) x → IsUnknownType (types_known items m.at.before) [] (constants_known m.at.before) x p → IsUnknown items p
  in_length_or_value : (m : MemberOf items) (w : Word) → Contains (own_constant m.at.here) w → w.place ≡ p → Lacks (constants_known m.at.before) w.name → IsUnknown items p
  in_body : (f : FunctionOf items) (at : EntryOf Mention (names_in f)) (around own : List Local) (u : Use) → at.here ≡ used (record { around = around; own = own }) u → IsUnknownUse f (around ++ own) u p → IsUnknown items p

-- 32: a quark contains itself

-- class a has a data member whose type is the quark b
pub record HasPart (items : List Item) (a b : ℕ) : Type 0 where
  pub m : MemberOf items
  pub of : TypeRef
  pub word : Word
  pub length : Option Width
  pub part : Class
  pub of_a : m.number ≡ a
  pub is : m.at.here ≡ field of word length
  pub of_b : slice_get (classes_of items) b ≡ Some part
  pub quark : IsTrue part.quark
  pub same : of.word.name ≡ part.word.name
  pub no_typedef : Lacks (names_by is_typedef m.at.before) of.word.name

-- directly or through other classes
pub data HasWithin (items : List Item) (goal : ℕ) : ℕ → Type 0 where
  directly : (a : ℕ) → HasPart items a goal → HasWithin items goal a
  through : (a b : ℕ) → HasPart items a b → HasWithin items goal b → HasWithin items goal a

pub record IsCyclic (items : List Item) (p : Place) : Type 0 where
  pub number : ℕ
  pub class : Class
  pub stands : slice_get (classes_of items) number ≡ Some class
  pub place : class.word.place ≡ p
  pub quark : IsTrue class.quark
  pub within : HasWithin items number number

-- 33: an element has no function `Void behave()`

pub record LacksBehave (items : List Item) (p : Place) : Type 0 where
  pub class : Class
  pub stands : Contains (classes_of items) class
  pub place : class.word.place ≡ p
  pub element : class.quark ≡ false
  pub lacks : (of : TypeRef) (w : Word) (b : Body) → Contains class.members (function of w [] b) → w.name ≡ codes "behave" → of.word.name ≡ codes "Void" → ⊥

-- 34: the value of a constant is not of its kind, or not in its type's range

abbrev pub IsWrongValue : NumType → Bool × ℤ → Type 0
IsWrongValue num v = (v.0 ≢ is_truth num.kind) ⊎ (in_range num v.1 ≡ false)

pub record IsBadConstant (items : List Item) (p : Place) : Type 0 where
  pub m : MemberOf items
  pub of : TypeRef
  pub word : Word
  pub value : Const
  pub is : m.at.here ≡ constant of word value
  pub place : word.place ≡ p
  pub means : Meaning items m.at.before
  pub named : Named
  pub num : NumType
  pub v : Bool × ℤ
  pub typed : IsMemberType means.known means.names of named
  pub number : as_number named.ty ≡ Some num
  pub valued : IsValue means.names value v
  pub wrong : IsWrongValue num v

-- 35: so many stand before it

pub data IsTooMany (items : List Item) (p : Place) : Type 0 where
  classes : (at : EntryOf Class (classes_of items)) → at.here.word.place ≡ p → MOST_CLASSES ≤ length at.before → IsTooMany items p
  typedefs_and_constants : (m : MemberOf items) → (member_word m.at.here).place ≡ p → IsTrue (is_small m.at.here) → MOST_MEMBERS ≤ length (filter is_small m.at.before) → IsTooMany items p
  data_members : (m : MemberOf items) → (member_word m.at.here).place ≡ p → IsTrue (is_field m.at.here) → MOST_MEMBERS ≤ length (filter is_field m.at.before) → IsTooMany items p
  functions : (m : MemberOf items) → (member_word m.at.here).place ≡ p → IsTrue (is_function m.at.here) → MOST_MEMBERS ≤ length (filter is_function m.at.before) → IsTooMany items p
  params : (m : MemberOf items) (at : EntryOf Param (params_in m.at.here)) → at.here.word.place ≡ p → MOST_PARAMS ≤ length at.before → IsTooMany items p
  locals : (f : FunctionOf items) (at : EntryOf Mention (names_in f)) (w : Word) (around own : List Local) →
      at.here ≡ declared (record { around = around; own = own }) w → w.place ≡ p → MOST_LOCALS ≤ length (locals_in at.before) → IsTooMany items p

-- 36: a width out of its range, or on a type that takes none; a type that may not stand there; the length of an array out of its range

-- a type whose width is wrong, by what names of types and of constants mean
pub data HasWrongWidth (types : Text → Option Basic) (constants : Text → Option ℤ) (x : TypeRef) : Type 0 where
  takes_none : (ty : Ty) (d : Width) → types x.word.name ≡ Some (whole ty) → x.width ≡ Some d → HasWrongWidth types constants x
  out_of_range : (k : Kind) (n : ℕ) (d : Width) (v : ℤ) → types x.word.name ≡ Some (sized k n) → x.width ≡ Some d → IsWidth constants d v → allows k v ≡ false → HasWrongWidth types constants x

abbrev pub HasWidthOut : {items : List Item} {before : List Member} → Meaning items before → TypeRef → Type 0
HasWidthOut m x = HasWrongWidth (basics m.known m.names) (values m.names) x

-- A type that no data member has: an atom's, none, that of the empty atom, an element; or for an array one that is no number type.
pub data IsNoDataType (items : List Item) (array : Bool) (ty : Ty) : Type 0 where
  atom : ty ≡ y.Atom → IsNoDataType items array ty
  nothing : ty ≡ y.Nothing → IsNoDataType items array ty
  empty : ty ≡ y.Empty → IsNoDataType items array ty
  element : (k : ℕ) (c : Class) → ty ≡ y.Class k → slice_get (classes_of items) k ≡ Some c → c.quark ≡ false → IsNoDataType items array ty
  of_array : IsTrue array → as_number ty ≡ None → IsNoDataType items array ty

pub data IsBadWidth (items : List Item) (p : Place) : Type 0 where
  width : (m : MemberOf items) (x : TypeRef) (means : Meaning items m.at.before) → Contains (types_in m.at.here) x → x.word.place ≡ p → HasWidthOut means x → IsBadWidth items p
  width_in_body : (f : FunctionOf items) (at : EntryOf Mention (names_in f)) (around own : List Local) (x : TypeRef) →
      at.here ≡ used (record { around = around; own = own }) (of_type x) → x.word.place ≡ p → HasWidthOut f.means x → IsBadWidth items p
  -- a typedef or constant whose type is no number type
  no_number : (m : MemberOf items) (means : Meaning items m.at.before) (n : Named) → IsTrue (is_small m.at.here) → (member_type m.at.here).word.place ≡ p →
      IsMemberType means.known means.names (member_type m.at.here) n → as_number n.ty ≡ None → IsBadWidth items p
  no_data : (m : MemberOf items) (means : Meaning items m.at.before) (of : TypeRef) (w : Word) (len : Option Width) (n : Named) → m.at.here ≡ field of w len → of.word.place ≡ p →
      IsMemberType means.known means.names of n → IsNoDataType items (is_some len) n.ty → IsBadWidth items p
  length_out : (m : MemberOf items) (means : Meaning items m.at.before) (of : TypeRef) (w : Word) (d : Width) (v : ℤ) → m.at.here ≡ field of w (Some d) → w.place ≡ p →
      IsWidth (values means.names) d v → (int_le (pos 1) v && int_le v (pos STATE_BITS)) ≡ false → IsBadWidth items p

-- What holds at the place of a fault
abbrev pub HoldsAt : List Item → fault.Fault → Type 0
HoldsAt items (fault.declared_twice p) = IsDoubled items p
HoldsAt items (fault.unknown_name p) = IsUnknown items p
HoldsAt items (fault.cyclic_quark p) = IsCyclic items p
HoldsAt items (fault.no_behave p) = LacksBehave items p
HoldsAt items (fault.bad_constant p) = IsBadConstant items p
HoldsAt items (fault.too_many p) = IsTooMany items p
HoldsAt items (fault.bad_width p) = IsBadWidth items p
