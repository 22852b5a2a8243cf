-- What must be in range for an element whose code is valid.
use Rattle.std.specs.Prelude.{ℕ, ◌≡◌, ◌≤◌, ◌<◌, ◌^◌, true}
use Rattle.std.specs.List.{AllByRecursion}
use Rattle.feast_base.specs.TypeNames.{is_type_name}
use Rattle.stack_code.specs.Machine.{FunctionValue}
use Rattle.stack_code.specs.declared.instr.Instr.{Instr}
use Rattle.stack_code.specs.declared.instr.Instr.TheVariants.{PushAtom, IsKind}
use Rattle.code_file.specs.Form.{ElementValue}
use Rattle.code_file.specs.Words.{is_name}
use Rattle.bit_field.specs.declared.TheConstants.{STATE_BITS}
use Rattle.feast_base.specs.declared.limits.TheConstants.{MOST_PARAMS}

-- a function with a name, a base inside an atom's state, and few parameters
pub record IsRanged (f : FunctionValue) : Type 0 where
  pub name : is_name f.name ≡ true
  pub base : f.base ≤ STATE_BITS
  pub params : f.params ≤ MOST_PARAMS

-- an instruction makes only atoms of the types up to this one, and asks for a type of 16 bits
abbrev pub OfTypes : ℕ → Instr → Type 0
OfTypes most (PushAtom k) = k ≤ most
OfTypes most (IsKind k) = k < 2 ^ 16
OfTypes most i = Unit {0}

-- an element of this type number, in a set of this many elements
pub record IsNamed (most kind : ℕ) (e : ElementValue) : Type 0 where
  pub name : is_type_name e.name ≡ true
  pub kind_is : e.code.kind ≡ kind
  pub functions : AllByRecursion IsRanged e.code.functions
  pub types : AllByRecursion (OfTypes most) e.code.instrs
