-- The form of a code file: what it says, and the one spelling of it.
use Rattle.std.specs.Prelude.{ℕ, ◌≡◌, ◌+◌, ◌≤◌, ◌<◌, ◌^◌, true, List, [], ◌∷◌, ◌++◌, length, take, codes, map}
use Rattle.std.specs.List.{AllByRecursion}
use Rattle.feast_base.specs.TypeNames.{is_type_name}
use Rattle.stack_code.specs.Machine.{CodeValue, FunctionValue}
use Rattle.stack_code.specs.declared.instr.Answer.{Answer}
use Rattle.stack_code.specs.declared.instr.Answer.TheVariants.{Nothing, Number as NumberBack, Atom as AtomBack}
use Rattle.stack_code.specs.declared.instr.Operand.{Operand}
use Rattle.stack_code.specs.declared.instr.Operand.TheVariants.{Number, Atom}
use Rattle.code_file.specs.Instrs.{IsInstr, instr_bytes}
use Rattle.code_file.specs.Numbers.{be, with_length, name_bytes}
use Rattle.code_file.specs.Words.{is_name}
use Rattle.bit_field.specs.declared.TheConstants.{STATE_BITS}
use Rattle.code_file.specs.declared.elements.TheConstants.{MOST_ELEMENTS}
use Rattle.stack_code.specs.declared.limits.TheConstants.{MOST_INSTRS, MOST_SLOTS}
use Rattle.feast_base.specs.declared.limits.TheConstants.{MOST_PARAMS}

-- an element: its name and its code
pub record ElementValue : Type 0 where
  pub name : List ℕ
  pub code : CodeValue

-- an element by its name and its code
abbrev pub element : List ℕ → CodeValue → ElementValue
element n c = record { name = n; code = c }

-- what a code file says: its elements, the first of which has type number 1
abbrev pub CodesValue : Type 0
CodesValue = List ElementValue

abbrev pub names_of : CodesValue → List (List ℕ)
names_of es = map (λ (e : ElementValue). e.name) es

abbrev pub codes_of : CodesValue → List CodeValue
codes_of es = map (λ (e : ElementValue). e.code) es

-- the elements of names and codes, as many as there are of both
abbrev pub elements : List (List ℕ) → List CodeValue → CodesValue
elements [] cs = []
elements (n ∷ ns) [] = []
elements (n ∷ ns) (c ∷ cs) = element n c ∷ elements ns cs

-- Spelling

abbrev pub operand_code : Operand → ℕ
operand_code Number = 0
operand_code Atom = 1

abbrev pub answer_code : Answer → ℕ
answer_code Nothing = 0
answer_code NumberBack = 1
answer_code AtomBack = 2

-- what a slot holds
abbrev pub slot_bytes : Operand → List ℕ
slot_bytes slot = be 1 (operand_code slot)

-- a function: its name, base, first place, parameters, answer and slots
abbrev pub function_bytes : FunctionValue → List ℕ
function_bytes f = name_bytes f.name ++ (be 1 f.base ++ (be 4 f.first ++ (be 1 f.params ++ (be 1 (answer_code f.answer) ++ with_length 1 slot_bytes f.slots))))

-- an element: its name, its functions, its instructions
abbrev pub element_bytes : ElementValue → List ℕ
element_bytes e = name_bytes e.name ++ (with_length 4 function_bytes e.code.functions ++ with_length 4 instr_bytes e.code.instrs)

-- the bytes 46 45 41 53 54 43 01 00, in which the last two are the version
abbrev pub magic : List ℕ
magic = codes "FEASTC" ++ (1 ∷ 0 ∷ [])

-- a whole file
abbrev pub file_bytes : CodesValue → List ℕ
file_bytes es = magic ++ with_length 2 element_bytes es

-- Ranges

pub record IsFunction (f : FunctionValue) : Type 0 where
  pub name : is_name f.name ≡ true
  pub base : f.base ≤ STATE_BITS
  pub first : f.first < 2 ^ 32
  pub params : f.params ≤ MOST_PARAMS
  pub slots : length f.slots ≤ MOST_SLOTS

-- an element of this type number, in a file of so many elements
pub record IsElement (most kind : ℕ) (e : ElementValue) : Type 0 where
  pub name : is_type_name e.name ≡ true
  pub kind_is : e.code.kind ≡ kind
  pub some_functions : 1 ≤ length e.code.functions
  pub few_functions : length e.code.functions ≤ MOST_INSTRS
  pub functions : AllByRecursion IsFunction e.code.functions
  pub some_instrs : 1 ≤ length e.code.instrs
  pub few_instrs : length e.code.instrs ≤ MOST_INSTRS
  pub instrs : AllByRecursion (IsInstr most) e.code.instrs

-- elements whose type numbers count up from this one
abbrev pub AreElements : ℕ → ℕ → CodesValue → Type 0
AreElements most kind [] = Unit {0}
AreElements most kind (e ∷ es) = IsElement most kind e × AreElements most (kind + 1) es

-- elements that a code file can have
pub record IsSayable (es : CodesValue) : Type 0 where
  pub few : length es ≤ MOST_ELEMENTS
  pub each : AreElements (length es) 1 es

-- the bytes are the code file of these elements
abbrev pub IsFile : List ℕ → CodesValue → Type 0
IsFile bytes es = IsSayable es × (bytes ≡ file_bytes es)

-- the bytes are the first ones of some code file
pub record Begins (bytes : List ℕ) : Type 0 where
  pub says : CodesValue
  pub more : List ℕ
  pub is_file : IsFile (bytes ++ more) says

-- The position, counted from 1, of the first byte that no code file has after the bytes before it. If all
-- bytes are the first ones of a code file but not a whole one, it is the position after the last byte.
pub record IsFirstBad (bytes : List ℕ) (column : ℕ) : Type 0 where
  pub some : 1 ≤ column
  pub within : column ≤ length bytes + 1
  pub before : (n : ℕ) → n < column → Begins (take n bytes)
  pub bad : column ≤ length bytes → Begins (take column bytes) → ⊥
  pub none : (es : CodesValue) → IsFile bytes es → ⊥
