-- What is known where an expression stands, and what a path means there.
use Rattle.std.specs.Prelude.{ℕ, ◌-◌, Bool, true, false, not, nat_eq, nat_lt, if◌then◌else◌, List, [], ◌∷◌, length, slice_get, slice_set, Option, Some, None}
use Rattle.ulam_tree.specs.declared.resolved.Ty.{Ty}
use Rattle.ulam_tree.specs.declared.resolved.Ty.TheVariants.{Num, Atom, Window, Class}
use Rattle.ulam_tree.specs.declared.resolved.Step.{Step}
use Rattle.ulam_tree.specs.declared.resolved.Step.TheVariants.{Own, Local, Member, Function, Constant, Built as Builtin}
use Rattle.ulam_tree.specs.declared.resolved.Built.{Built}
use Rattle.ulam_tree.specs.declared.resolved.Built.TheVariants.{Swap, IsLive, IsEmpty, Create, OneIn}
use Rattle.type_rules.specs.declared.scope.Want.{Want}
use Rattle.type_rules.specs.declared.scope.Want.TheVariants.{Site, Bound}
use Rattle.type_rules.specs.declared.scope.FieldSig.{FieldSig}

-- a function, without its body
pub record FunctionSig : Type 0 where
  pub result : Ty
  pub wants : List Want

-- a class, without the bodies of its functions
pub record ClassSig : Type 0 where
  pub quark : Bool
  pub fields : List FieldSig
  pub functions : List FunctionSig

-- what is known in a function: all classes, the class that has the function, the types of its slots, its result, and
-- whether a loop is around
pub record Scope : Type 0 where
  pub classes : List ClassSig
  pub class : ℕ
  pub slots : List Ty
  pub result : Ty
  pub looped : Bool

-- Data members, functions and steps

abbrev pub is_element_class : Option ClassSig → Bool
is_element_class None = false
is_element_class (Some c) = not c.quark

abbrev pub field_in : ℕ → Option ClassSig → Option FieldSig
field_in m None = None
field_in m (Some c) = slice_get c.fields m

abbrev pub function_in : ℕ → Option ClassSig → Option FunctionSig
function_in f None = None
function_in f (Some c) = slice_get c.functions f

-- Of data members only a number that is no array has a value: no quark, no `EventWindow` and no `Random`.
abbrev pub number_by : ℕ → Ty → Option Ty
number_by len (Num t) = if nat_eq len 0 then Some (Num t) else None
number_by len ty = None

abbrev pub number_field : Option FieldSig → Option Ty
number_field None = None
number_field (Some f) = number_by f.length f.ty

-- what `[ ]` gives after a data member: after an `EventWindow` an atom, after an array one of its numbers
abbrev pub item_of : ℕ → Ty → Option Ty
item_of len Window = Some Atom
item_of len (Num t) = if nat_lt 0 len then Some (Num t) else None
item_of len ty = None

abbrev pub item_field : Option FieldSig → Option Ty
item_field None = None
item_field (Some f) = item_of f.length f.ty

-- what a path ends with
abbrev pub last_step : List Step → Option Step
last_step steps = slice_get steps (length steps - 1)

abbrev pub begins_local : List Step → Bool
begins_local (Local s ∷ steps) = true
begins_local steps = false

-- what is called: a function of a class, or a built-in function
pub data Callee : Type 0 where
  function : FunctionSig → Callee
  built : Built → Callee

abbrev pub callee_function : Option FunctionSig → Option Callee
callee_function None = None
callee_function (Some f) = Some (function f)

abbrev pub built_wants : Built → List Want
built_wants Swap = Site ∷ Site ∷ []
built_wants IsLive = Site ∷ []
built_wants IsEmpty = Site ∷ []
built_wants Create = Bound ∷ []
built_wants OneIn = Bound ∷ []

abbrev pub wants_of : Callee → List Want
wants_of (function f) = f.wants
wants_of (built b) = built_wants b

module _ (g : Scope) where
  -- the scope of the body of a loop
  abbrev pub in_loop : Scope
  in_loop = record g { looped = true }

  -- the scope in which a slot is seen as an element
  abbrev pub scope_as : ℕ → Ty → Scope
  scope_as s ty = record g { slots = slice_set g.slots s ty }

  -- Types of values

  abbrev pub class_at : ℕ → Option ClassSig
  class_at k = slice_get g.classes k

  abbrev pub is_element : ℕ → Bool
  is_element k = is_element_class (class_at k)

  -- a type that a value may have: a number type, `Atom`, or an element
  abbrev pub is_value : Ty → Bool
  is_value (Num t) = true
  is_value Atom = true
  is_value (Class k) = is_element k
  is_value ty = false

  abbrev pub if_value : Ty → Option Ty
  if_value ty = if is_value ty then Some ty else None

  -- Paths

  abbrev pub slot_type : Option Ty → Option Ty
  slot_type None = None
  slot_type (Some ty) = if_value ty

  abbrev pub field_at : ℕ → ℕ → Option FieldSig
  field_at k m = field_in m (class_at k)

  abbrev pub value_by : Option Step → Option Ty
  value_by (Some Own) = if_value (Class g.class)
  value_by (Some (Local s)) = slot_type (slice_get g.slots s)
  value_by (Some (Member k m)) = number_field (field_at k m)
  value_by (Some (Constant num v)) = Some (Num num)
  value_by step = None

  -- the type of a path as a value, if it has one
  abbrev pub value_type : List Step → Option Ty
  value_type steps = value_by (last_step steps)

  abbrev pub target_by : Option Step → Option Ty
  target_by (Some (Local s)) = slot_type (slice_get g.slots s)
  target_by (Some (Member k m)) = number_field (field_at k m)
  target_by step = None

  -- the type of a path as a left side, if it may be one
  abbrev pub target_type : List Step → Option Ty
  target_type steps = target_by (last_step steps)

  abbrev pub item_by : Option Step → Option Ty
  item_by (Some (Member k m)) = item_field (field_at k m)
  item_by step = None

  -- the type of what `[ ]` gives after a path
  abbrev pub item_type : List Step → Option Ty
  item_type steps = item_by (last_step steps)

  -- Calls

  abbrev pub function_at : ℕ → ℕ → Option FunctionSig
  function_at k f = function_in f (class_at k)

  abbrev pub callee_by : Option Step → Option Callee
  callee_by (Some (Function k f)) = callee_function (function_at k f)
  callee_by (Some (Builtin b)) = Some (built b)
  callee_by step = None

  -- what a path calls; nothing is called through a local
  abbrev pub callee : List Step → Option Callee
  callee steps = if begins_local steps then None else callee_by (last_step steps)
