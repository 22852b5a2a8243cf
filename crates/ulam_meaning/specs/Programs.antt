-- A program whose types are known, with its layout: what its classes consist of, and which of them are elements.
use Rattle.std.specs.Prelude.{ℕ, zero, suc, List, [], ◌∷◌, ◌++◌, take, slice_get, slice_index_or, Option, None, if◌then◌else◌, codes}
use Rattle.std.specs.Option.{option_map_or}
use Rattle.std.specs.Str.{bytes_eq}
use Rattle.ulam_tree.specs.declared.resolved.Ty.{Ty}
use Rattle.ulam_tree.specs.declared.resolved.Ty.TheVariants as y
use Rattle.ulam_tree.specs.Statements as s
use Rattle.ulam_tree.specs.Typed as t
use Rattle.ulam_tree.specs.Locals.{all_locals}

-- the classes of all files, and the bits of the data members of each
pub record Program : Type 0 where
  pub classes : List t.Class
  pub layout : List (List ℕ)

-- a data member: its type, and its length, which is 0 if it is not an array
pub record Field : Type 0 where
  pub ty : Ty
  pub length : ℕ

-- a function: its name, the types of its parameters, that of its result, and its body
pub record Function : Type 0 where
  pub name : List ℕ
  pub params : List Ty
  pub result : Ty
  pub body : t.Body

-- the types of parameters, in order
abbrev pub param_types : List t.Param → List Ty
param_types [] = []
param_types (p ∷ ps) = p.of.ty ∷ param_types ps

-- the data members of a class, in order
abbrev pub fields : {E A : Type 0} → List (s.Member E A) → List Field
fields [] = []
fields (s.field of w n ∷ ms) = record { ty = of.ty; length = n } ∷ fields ms
fields (s.function of w ps b ∷ ms) = fields ms

-- the functions of a class, in order
abbrev pub functions : List t.Member → List Function
functions [] = []
functions (t.field of w n ∷ ms) = functions ms
functions (t.function of w ps b ∷ ms) = record { name = w.name; params = param_types ps; result = of.ty; body = b } ∷ functions ms

-- a stand-in for a data member that does not exist
abbrev pub no_field : Field
no_field = record { ty = y.Nothing; length = 0 }

-- a stand-in for a function that does not exist
abbrev pub no_function : Function
no_function = record { name = []; params = []; result = y.Nothing; body = t.no_more }

-- what is declared in a class
abbrev pub members_of : Program → ℕ → List t.Member
members_of g c = option_map_or (λ (k : t.Class). k.members) (slice_get g.classes c) []

-- a data member by its class and its number there
unfoldable pub field_at : Program → ℕ → ℕ → Field
field_at g c m = slice_index_or (fields (members_of g c)) m no_field

-- a function by its class and its number there
unfoldable pub function_at : Program → ℕ → ℕ → Function
function_at g c f = slice_index_or (functions (members_of g c)) f no_function

-- the number of the first function of a name
abbrev pub number_named : List ℕ → List Function → ℕ
number_named name [] = 0
number_named name (f ∷ fs) = if bytes_eq f.name name then 0 else suc (number_named name fs)

-- which of its functions is the `behave` of a class
unfoldable pub behave_of : Program → ℕ → ℕ
behave_of g c = number_named (codes "behave") (functions (members_of g c))

-- the types of a function's locals by their slots: the parameters, and then the others in the order of their declarations
abbrev pub slot_types : Function → List Ty
slot_types f = f.params ++ all_locals f.body

-- Elements

-- which classes are elements, if the first of these is class c
abbrev pub element_classes : ℕ → List t.Class → List ℕ
element_classes c [] = []
element_classes c (k ∷ ks) = if k.quark then element_classes (suc c) ks else c ∷ element_classes (suc c) ks

-- how many elements there are
abbrev pub count_elements : List t.Class → ℕ
count_elements [] = 0
count_elements (k ∷ ks) = if k.quark then count_elements ks else suc (count_elements ks)

-- the type number of an element by its class: elements are counted from 1, in the order of the classes
unfoldable pub number_of : Program → ℕ → ℕ
number_of g c = count_elements (take (suc c) g.classes)

-- the class that is the element of a type number; 0 is that of Empty
unfoldable pub element_of : Program → ℕ → Option ℕ
element_of g zero = None
element_of g (suc k) = slice_get (element_classes 0 g.classes) k

-- the type number of a type: an element's, otherwise that of Empty
abbrev pub type_number : Program → Ty → ℕ
type_number g (y.Class c) = number_of g c
type_number g ty = 0
