-- Elements, values and classes of numbers, by the table and in words.
use Rattle.std.proofs.Common.{◌≡◌, ◌≢◌, ℕ, ◌⊎◌, inl, inr, refl, ap, ◌∙◌, Bool, true, false, not, Option, Some, None, slice_get, is_some}
use Rattle.std.proofs.lemmas.Bool.{false≢true, both_ways, not-true}
use Rattle.sat_math.specs.declared.Kind.{Kind}
use Rattle.sat_math.specs.declared.Kind.TheVariants as k
use Rattle.ulam_tree.specs.declared.resolved.Ty.{Ty}
use Rattle.ulam_tree.specs.declared.resolved.Ty.TheVariants.{Num, Atom, Empty, Nothing, Window, Random, Class}
use Rattle.type_rules.specs.declared.scope.NumClass.TheVariants.{Int, Unsigned, Bits, Bool as Truth}
use Rattle.type_rules.specs.Scopes.{Scope, ClassSig, is_element_class, is_element, is_value}
use Rattle.type_rules.specs.Rows.{class_by, class_of, is_atom, is_species, is_index, is_index_class, is_truth, is_truth_class, is_void}
use Rattle.type_rules.specs.Bodies.{is_element_type}
use Rattle.fault_laws.specs.TypesRows.{IsNumber, IsOf, IsInt, IsUnsigned, IsBits, IsBool, IsElement, IsAtom, IsSpecies, IsValue, IsIndex}

-- a rule that a test of the table refuses
pub refuted : {P : Type 0} (b : Bool) → b ≡ false → (P → b ≡ true) → P → ⊥
refuted b off on h = both_ways b off (on h)

pub refuted_none : {P A : Type 0} (o : Option A) → o ≡ None → (P → is_some o ≡ true) → P → ⊥
refuted_none o off on h = both_ways (is_some o) (ap is_some off) (on h)

-- Elements, atoms and values

element_class : (o : Option ClassSig) (c : ClassSig) → o ≡ Some c → c.quark ≡ false → is_element_class o ≡ true
element_class o c at e = ap is_element_class at ∙ ap not e

pub element_true : (g : Scope) (c : ℕ) → IsElement g (Class c) → is_element g c ≡ true
element_true g c h = element_class (slice_get g.classes c) h.0 h.1 h.2

pub element_is : (g : Scope) (c : ℕ) → is_element g c ≡ true → IsElement g (Class c)
element_is g c e = go (slice_get g.classes c) refl e
  where
    go : (o : Option ClassSig) → slice_get g.classes c ≡ o → is_element_class o ≡ true → IsElement g (Class c)
    go None at e = absurd (false≢true e)
    go (Some s) at e = (s, at, not-true s.quark e)

-- a test that elements pass
element_passes : (g : Scope) (ty : Ty) (f : Ty → Bool) → ((c : ℕ) → is_element g c ≡ true → f (Class c) ≡ true) → IsElement g ty → f ty ≡ true
element_passes g (Num t) f each h = absurd h
element_passes g Atom f each h = absurd h
element_passes g Empty f each h = absurd h
element_passes g Nothing f each h = absurd h
element_passes g Window f each h = absurd h
element_passes g Random f each h = absurd h
element_passes g (Class c) f each h = each c (element_true g c h)

pub element_type_true : (g : Scope) (ty : Ty) → IsElement g ty → is_element_type g ty ≡ true
element_type_true g ty h = element_passes g ty (is_element_type g) (λ c e. e) h

pub element_type_is : (g : Scope) (ty : Ty) → is_element_type g ty ≡ true → IsElement g ty
element_type_is g (Num t) e = absurd (false≢true e)
element_type_is g Atom e = absurd (false≢true e)
element_type_is g Empty e = absurd (false≢true e)
element_type_is g Nothing e = absurd (false≢true e)
element_type_is g Window e = absurd (false≢true e)
element_type_is g Random e = absurd (false≢true e)
element_type_is g (Class c) e = element_is g c e

pub atom_true : (g : Scope) (ty : Ty) → IsAtom g ty → is_atom g ty ≡ true
atom_true g ty (inl e) = ap (is_atom g) e
atom_true g ty (inr h) = element_passes g ty (is_atom g) (λ c e. e) h

pub species_true : (g : Scope) (ty : Ty) → IsSpecies g ty → is_species g ty ≡ true
species_true g ty (inl e) = ap (is_species g) e
species_true g ty (inr h) = element_passes g ty (is_species g) (λ c e. e) h

number_value : (g : Scope) (ty : Ty) → IsNumber ty → is_value g ty ≡ true
number_value g (Num t) h = refl
number_value g Atom h = refl
number_value g Empty h = absurd h
number_value g Nothing h = absurd h
number_value g Window h = absurd h
number_value g Random h = absurd h
number_value g (Class c) h = absurd h

pub value_true : (g : Scope) (ty : Ty) → IsValue g ty → is_value g ty ≡ true
value_true g ty (inl h) = number_value g ty h
value_true g ty (inr (inl e)) = ap (is_value g) e
value_true g ty (inr (inr h)) = element_passes g ty (is_value g) (λ c e. e) h

pub void_is : (ty : Ty) → is_void ty ≡ true → ty ≡ Nothing
void_is (Num t) e = absurd (false≢true e)
void_is Atom e = absurd (false≢true e)
void_is Empty e = absurd (false≢true e)
void_is Nothing e = refl
void_is Window e = absurd (false≢true e)
void_is Random e = absurd (false≢true e)
void_is (Class c) e = absurd (false≢true e)

pub not_void : (ty : Ty) → is_void ty ≡ false → ty ≢ Nothing
not_void ty e same = both_ways (is_void ty) e (ap is_void same)

-- Classes of numbers

class_at : (ty : Ty) (kind : Kind) → IsOf kind ty → (w : ℕ) × (class_of ty ≡ class_by kind w)
class_at (Num t) kind h = (t.width, ap (λ x. class_by x t.width) h)
class_at Atom kind h = absurd h
class_at Empty kind h = absurd h
class_at Nothing kind h = absurd h
class_at Window kind h = absurd h
class_at Random kind h = absurd h
class_at (Class c) kind h = absurd h

pub int_class : (ty : Ty) → IsInt ty → (w : ℕ) × (class_of ty ≡ Int w)
int_class ty h = class_at ty k.Int h

pub unsigned_class : (ty : Ty) → IsUnsigned ty → (w : ℕ) × (class_of ty ≡ Unsigned w)
unsigned_class ty (inl h) = class_at ty k.Unsigned h
unsigned_class ty (inr h) = class_at ty k.Unary h

pub bits_class : (ty : Ty) → IsBits ty → (w : ℕ) × (class_of ty ≡ Bits w)
bits_class ty h = class_at ty k.Bits h

pub bool_class : (ty : Ty) → IsBool ty → class_of ty ≡ Truth
bool_class ty h = (class_at ty k.Bool h).1

int_kind : (kind : Kind) (v w : ℕ) → class_by kind v ≡ Int w → kind ≡ k.Int
int_kind k.Int v w e = refl
int_kind k.Unsigned v w e = absurd cc
int_kind k.Unary v w e = absurd cc
int_kind k.Bits v w e = absurd cc
int_kind k.Bool v w e = absurd cc

unsigned_kind : (kind : Kind) (v w : ℕ) → class_by kind v ≡ Unsigned w → (kind ≡ k.Unsigned) ⊎ (kind ≡ k.Unary)
unsigned_kind k.Int v w e = absurd cc
unsigned_kind k.Unsigned v w e = inl refl
unsigned_kind k.Unary v w e = inr refl
unsigned_kind k.Bits v w e = absurd cc
unsigned_kind k.Bool v w e = absurd cc

bits_kind : (kind : Kind) (v w : ℕ) → class_by kind v ≡ Bits w → kind ≡ k.Bits
bits_kind k.Int v w e = absurd cc
bits_kind k.Unsigned v w e = absurd cc
bits_kind k.Unary v w e = absurd cc
bits_kind k.Bits v w e = refl
bits_kind k.Bool v w e = absurd cc

bool_kind : (kind : Kind) (v : ℕ) → class_by kind v ≡ Truth → kind ≡ k.Bool
bool_kind k.Int v e = absurd cc
bool_kind k.Unsigned v e = absurd cc
bool_kind k.Unary v e = absurd cc
bool_kind k.Bits v e = absurd cc
bool_kind k.Bool v e = refl

pub int_is : (ty : Ty) (w : ℕ) → class_of ty ≡ Int w → IsInt ty
int_is (Num t) w e = int_kind t.kind t.width w e
int_is Atom w e = absurd cc
int_is Empty w e = absurd cc
int_is Nothing w e = absurd cc
int_is Window w e = absurd cc
int_is Random w e = absurd cc
int_is (Class c) w e = absurd cc

pub unsigned_is : (ty : Ty) (w : ℕ) → class_of ty ≡ Unsigned w → IsUnsigned ty
unsigned_is (Num t) w e = unsigned_kind t.kind t.width w e
unsigned_is Atom w e = absurd cc
unsigned_is Empty w e = absurd cc
unsigned_is Nothing w e = absurd cc
unsigned_is Window w e = absurd cc
unsigned_is Random w e = absurd cc
unsigned_is (Class c) w e = absurd cc

pub bits_is : (ty : Ty) (w : ℕ) → class_of ty ≡ Bits w → IsBits ty
bits_is (Num t) w e = bits_kind t.kind t.width w e
bits_is Atom w e = absurd cc
bits_is Empty w e = absurd cc
bits_is Nothing w e = absurd cc
bits_is Window w e = absurd cc
bits_is Random w e = absurd cc
bits_is (Class c) w e = absurd cc

pub bool_is : (ty : Ty) → class_of ty ≡ Truth → IsBool ty
bool_is (Num t) e = bool_kind t.kind t.width e
bool_is Atom e = absurd cc
bool_is Empty e = absurd cc
bool_is Nothing e = absurd cc
bool_is Window e = absurd cc
bool_is Random e = absurd cc
bool_is (Class c) e = absurd cc

pub index_true : (ty : Ty) → IsIndex ty → is_index ty ≡ true
index_true ty (inl h) = ap is_index_class (int_class ty h).1
index_true ty (inr h) = ap is_index_class (unsigned_class ty h).1

pub bool_true : (ty : Ty) → IsBool ty → is_truth ty ≡ true
bool_true ty h = ap is_truth_class (bool_class ty h)
