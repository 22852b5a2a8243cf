-- The text of a code: a line for the element, and for each function a line and its instructions.
use Rattle.std.specs.Prelude.{ℕ, ◌+◌, List, [], ◌∷◌, ◌++◌, length, codes, decimal}
use Rattle.std.specs.Fmt.{signed_decimal}
use Rattle.sat_math.specs.declared.Kind.{Kind}
use Rattle.sat_math.specs.declared.Kind.TheVariants.{Int, Unsigned, Bits, Bool, Unary}
use Rattle.stack_code.specs.declared.instr.Instr.{Instr}
use Rattle.stack_code.specs.declared.instr.Instr.TheVariants.{PushNum, PushAtom, LoadLocal, StoreLocal, Pop, LoadField, StoreField, LoadPart, StorePart, LoadSelf, LoadSite, StoreSite, Swap, IsLive, IsEmpty, RandCreate, RandOneIn, IsKind, AddI, SubI, MulI, DivI, RemI, AddU, SubU, MulU, DivU, RemU, NegI, And, Or, Xor, NotW, Shl, Shr, Fit, NotB, Eq, Ne, Lt, Le, Gt, Ge, Jump, JumpFalse, Turn, Call, Return, ReturnVoid, AddL, SubL, MulL, DivL, RemL, AddV, SubV, MulV, DivV, RemV, NegL, Dup, LoadFieldAt, StoreFieldAt, LoadPartAt, StorePartAt}
use Rattle.stack_code.specs.Machine.{FunctionValue, CodeValue}
use Rattle.stack_code.specs.Valid.{stretch, end_with}

-- a space and a word
abbrev pub space_and_word : List ℕ → List ℕ
space_and_word word = codes " " ++ word

-- a space and a number
abbrev pub number_text : ℕ → List ℕ
number_text n = space_and_word (decimal n)

-- the name of a kind of numbers
abbrev pub kind_name : Kind → List ℕ
kind_name Int = codes "Int"
kind_name Unsigned = codes "Unsigned"
kind_name Bits = codes "Bits"
kind_name Bool = codes "Bool"
kind_name Unary = codes "Unary"

-- a field: its first bit, its width, its kind
abbrev pub field_text : ℕ → ℕ → Kind → List ℕ
field_text f w k = number_text f ++ (number_text w ++ space_and_word (kind_name k))

-- the name of an instruction
abbrev pub instr_name : Instr → List ℕ
instr_name (PushNum a) = codes "PushNum"
instr_name (PushAtom a) = codes "PushAtom"
instr_name (LoadLocal a) = codes "LoadLocal"
instr_name (StoreLocal a) = codes "StoreLocal"
instr_name Pop = codes "Pop"
instr_name (LoadField a b c) = codes "LoadField"
instr_name (StoreField a b c) = codes "StoreField"
instr_name (LoadPart a b c d) = codes "LoadPart"
instr_name (StorePart a b c d) = codes "StorePart"
instr_name LoadSelf = codes "LoadSelf"
instr_name LoadSite = codes "LoadSite"
instr_name StoreSite = codes "StoreSite"
instr_name Swap = codes "Swap"
instr_name IsLive = codes "IsLive"
instr_name IsEmpty = codes "IsEmpty"
instr_name RandCreate = codes "RandCreate"
instr_name RandOneIn = codes "RandOneIn"
instr_name (IsKind a) = codes "IsKind"
instr_name AddI = codes "AddI"
instr_name SubI = codes "SubI"
instr_name MulI = codes "MulI"
instr_name DivI = codes "DivI"
instr_name RemI = codes "RemI"
instr_name AddU = codes "AddU"
instr_name SubU = codes "SubU"
instr_name MulU = codes "MulU"
instr_name DivU = codes "DivU"
instr_name RemU = codes "RemU"
instr_name NegI = codes "NegI"
instr_name And = codes "And"
instr_name Or = codes "Or"
instr_name Xor = codes "Xor"
instr_name (NotW a) = codes "NotW"
instr_name (Shl a) = codes "Shl"
instr_name Shr = codes "Shr"
instr_name (Fit a b) = codes "Fit"
instr_name NotB = codes "NotB"
instr_name Eq = codes "Eq"
instr_name Ne = codes "Ne"
instr_name Lt = codes "Lt"
instr_name Le = codes "Le"
instr_name Gt = codes "Gt"
instr_name Ge = codes "Ge"
instr_name (Jump a) = codes "Jump"
instr_name (JumpFalse a) = codes "JumpFalse"
instr_name Turn = codes "Turn"
instr_name (Call a) = codes "Call"
instr_name Return = codes "Return"
instr_name ReturnVoid = codes "ReturnVoid"
instr_name AddL = codes "AddL"
instr_name SubL = codes "SubL"
instr_name MulL = codes "MulL"
instr_name DivL = codes "DivL"
instr_name RemL = codes "RemL"
instr_name AddV = codes "AddV"
instr_name SubV = codes "SubV"
instr_name MulV = codes "MulV"
instr_name DivV = codes "DivV"
instr_name RemV = codes "RemV"
instr_name NegL = codes "NegL"
instr_name Dup = codes "Dup"
instr_name (LoadFieldAt a b c d) = codes "LoadFieldAt"
instr_name (StoreFieldAt a b c d) = codes "StoreFieldAt"
instr_name (LoadPartAt a b c d e) = codes "LoadPartAt"
instr_name (StorePartAt a b c d e) = codes "StorePartAt"

-- the arguments of an instruction
abbrev pub args_text : Instr → List ℕ
args_text (PushNum v) = space_and_word (signed_decimal v)
args_text (PushAtom k) = number_text k
args_text (LoadLocal s) = number_text s
args_text (StoreLocal s) = number_text s
args_text (LoadField f w k) = field_text f w k
args_text (StoreField f w k) = field_text f w k
args_text (LoadPart s f w k) = number_text s ++ field_text f w k
args_text (StorePart s f w k) = number_text s ++ field_text f w k
args_text (IsKind k) = number_text k
args_text (NotW w) = number_text w
args_text (Shl w) = number_text w
args_text (Fit k w) = space_and_word (kind_name k) ++ number_text w
args_text (Jump p) = number_text p
args_text (JumpFalse p) = number_text p
args_text (Call f) = number_text f
args_text (LoadFieldAt f w k n) = field_text f w k ++ number_text n
args_text (StoreFieldAt f w k n) = field_text f w k ++ number_text n
args_text (LoadPartAt s f w k n) = number_text s ++ (field_text f w k ++ number_text n)
args_text (StorePartAt s f w k n) = number_text s ++ (field_text f w k ++ number_text n)
args_text i = []

-- the line of the instruction at place p
abbrev pub instr_line : ℕ → Instr → List ℕ
instr_line p i = decimal p ++ (space_and_word (instr_name i) ++ (args_text i ++ codes "\n"))

-- the lines of these instructions, the first of which stands at place p
abbrev pub instr_lines : ℕ → List Instr → List ℕ
instr_lines p [] = []
instr_lines p (i ∷ is) = instr_line p i ++ instr_lines (p + 1) is

-- the line of function k
abbrev pub function_line : ℕ → FunctionValue → List ℕ
function_line k f = codes "function" ++ (number_text k ++ (space_and_word f.name ++ (number_text f.base ++ (number_text (length f.slots) ++ codes "\n"))))

-- the instructions of a function that ends before this place
abbrev pub body_of : CodeValue → FunctionValue → ℕ → List Instr
body_of c f end = stretch c f.first end

-- the text of function k, which ends before this place: its line, and those of its instructions
abbrev pub function_text : CodeValue → ℕ → FunctionValue → ℕ → List ℕ
function_text c k f end = function_line k f ++ instr_lines f.first (body_of c f end)

-- the texts of these functions, the first of which is function k
abbrev pub function_texts : CodeValue → ℕ → List FunctionValue → List ℕ
function_texts c k [] = []
function_texts c k (f ∷ fs) = function_text c k f (end_with (length c.instrs) fs) ++ function_texts c (k + 1) fs

-- the line of the element
abbrev pub element_line : List ℕ → CodeValue → List ℕ
element_line name c = codes "element" ++ (space_and_word name ++ (number_text c.kind ++ (number_text (length c.instrs) ++ codes "\n")))

-- the text of the code of an element of this name
abbrev pub code_text : List ℕ → CodeValue → List ℕ
code_text name c = element_line name c ++ function_texts c 0 c.functions
