-- Instructions as bytes, and the ranges of their arguments.
use Rattle.std.specs.Prelude.{ℕ, ◌≡◌, ◌≤◌, ◌<◌, ◌^◌, true, List, [], ◌++◌}
use Rattle.sat_math.specs.declared.Kind.{Kind}
use Rattle.sat_math.specs.declared.Kind.TheVariants.{Int, Unsigned, Bits, Bool, Unary}
use Rattle.stack_code.specs.Valid.{number_fits}
use Rattle.stack_code.specs.declared.instr.Instr.{Instr}
use Rattle.stack_code.specs.declared.instr.Instr.TheVariants.{PushNum, PushAtom, LoadLocal, StoreLocal, Pop, LoadField, StoreField, LoadPart, StorePart, LoadSelf, LoadSite, StoreSite, Swap, IsLive, IsEmpty, RandCreate, RandOneIn, IsKind, AddI, SubI, MulI, DivI, RemI, AddU, SubU, MulU, DivU, RemU, NegI, And, Or, Xor, NotW, Shl, Shr, Fit, NotB, Eq, Ne, Lt, Le, Gt, Ge, Jump, JumpFalse, Turn, Call, Return, ReturnVoid, AddL, SubL, MulL, DivL, RemL, AddV, SubV, MulV, DivV, RemV, NegL, Dup, LoadFieldAt, StoreFieldAt, LoadPartAt, StorePartAt}
use Rattle.code_file.specs.Numbers.{be, bytes_of_signed}

-- the byte of an instruction's name
abbrev pub opcode : Instr → ℕ
opcode (PushNum a) = 0
opcode (PushAtom a) = 1
opcode (LoadLocal a) = 2
opcode (StoreLocal a) = 3
opcode Pop = 4
opcode (LoadField a b c) = 5
opcode (StoreField a b c) = 6
opcode (LoadPart a b c d) = 7
opcode (StorePart a b c d) = 8
opcode LoadSelf = 9
opcode LoadSite = 10
opcode StoreSite = 11
opcode Swap = 12
opcode IsLive = 13
opcode IsEmpty = 14
opcode RandCreate = 15
opcode RandOneIn = 16
opcode (IsKind a) = 17
opcode AddI = 18
opcode SubI = 19
opcode MulI = 20
opcode DivI = 21
opcode RemI = 22
opcode AddU = 23
opcode SubU = 24
opcode MulU = 25
opcode DivU = 26
opcode RemU = 27
opcode NegI = 28
opcode And = 29
opcode Or = 30
opcode Xor = 31
opcode (NotW a) = 32
opcode (Shl a) = 33
opcode Shr = 34
opcode (Fit a b) = 35
opcode NotB = 36
opcode Eq = 37
opcode Ne = 38
opcode Lt = 39
opcode Le = 40
opcode Gt = 41
opcode Ge = 42
opcode (Jump a) = 43
opcode (JumpFalse a) = 44
opcode Turn = 45
opcode (Call a) = 46
opcode Return = 47
opcode ReturnVoid = 48
opcode AddL = 49
opcode SubL = 50
opcode MulL = 51
opcode DivL = 52
opcode RemL = 53
opcode AddV = 54
opcode SubV = 55
opcode MulV = 56
opcode DivV = 57
opcode RemV = 58
opcode NegL = 59
opcode Dup = 60
opcode (LoadFieldAt a b c d) = 61
opcode (StoreFieldAt a b c d) = 62
opcode (LoadPartAt a b c d e) = 63
opcode (StorePartAt a b c d e) = 64

-- the byte of a kind of numbers
abbrev pub kind_code : Kind → ℕ
kind_code Int = 0
kind_code Unsigned = 1
kind_code Bits = 2
kind_code Bool = 3
kind_code Unary = 4

-- a field: its first bit, its width, its kind
abbrev pub field_bytes : ℕ → ℕ → Kind → List ℕ
field_bytes f w k = be 1 f ++ (be 1 w ++ be 1 (kind_code k))

-- a field and the length of its array
abbrev pub array_bytes : ℕ → ℕ → Kind → ℕ → List ℕ
array_bytes f w k n = field_bytes f w k ++ be 1 n

-- the arguments of an instruction, in their order
abbrev pub args_bytes : Instr → List ℕ
args_bytes (PushNum v) = bytes_of_signed v
args_bytes (PushAtom k) = be 2 k
args_bytes (LoadLocal s) = be 1 s
args_bytes (StoreLocal s) = be 1 s
args_bytes (LoadField f w k) = field_bytes f w k
args_bytes (StoreField f w k) = field_bytes f w k
args_bytes (LoadPart s f w k) = be 1 s ++ field_bytes f w k
args_bytes (StorePart s f w k) = be 1 s ++ field_bytes f w k
args_bytes (IsKind k) = be 2 k
args_bytes (NotW w) = be 1 w
args_bytes (Shl w) = be 1 w
args_bytes (Fit k w) = be 1 (kind_code k) ++ be 1 w
args_bytes (Jump p) = be 4 p
args_bytes (JumpFalse p) = be 4 p
args_bytes (Call f) = be 4 f
args_bytes (LoadFieldAt f w k n) = array_bytes f w k n
args_bytes (StoreFieldAt f w k n) = array_bytes f w k n
args_bytes (LoadPartAt s f w k n) = be 1 s ++ array_bytes f w k n
args_bytes (StorePartAt s f w k n) = be 1 s ++ array_bytes f w k n
args_bytes i = []

-- an instruction: the byte of its name, and its arguments
abbrev pub instr_bytes : Instr → List ℕ
instr_bytes i = be 1 (opcode i) ++ args_bytes i

-- the numbers of one byte, and those of four bytes
abbrev pub IsByte : ℕ → Type 0
IsByte n = n < 2 ^ 8

abbrev pub IsPlace : ℕ → Type 0
IsPlace n = n < 2 ^ 32

abbrev pub IsField : ℕ → ℕ → Type 0
IsField f w = IsByte f × IsByte w

-- the arguments are in range, in a file of this many elements: no atom of a type without a name is made
abbrev pub IsInstr : ℕ → Instr → Type 0
IsInstr elements (PushNum v) = number_fits v ≡ true
IsInstr elements (PushAtom k) = k ≤ elements
IsInstr elements (LoadLocal s) = IsByte s
IsInstr elements (StoreLocal s) = IsByte s
IsInstr elements (LoadField f w k) = IsField f w
IsInstr elements (StoreField f w k) = IsField f w
IsInstr elements (LoadPart s f w k) = IsByte s × IsField f w
IsInstr elements (StorePart s f w k) = IsByte s × IsField f w
IsInstr elements (IsKind k) = k < 2 ^ 16
IsInstr elements (NotW w) = (1 ≤ w) × (w ≤ 64)
IsInstr elements (Shl w) = (1 ≤ w) × (w ≤ 64)
IsInstr elements (Fit k w) = IsByte w
IsInstr elements (Jump p) = IsPlace p
IsInstr elements (JumpFalse p) = IsPlace p
IsInstr elements (Call f) = IsPlace f
IsInstr elements (LoadFieldAt f w k n) = IsField f w × IsByte n
IsInstr elements (StoreFieldAt f w k n) = IsField f w × IsByte n
IsInstr elements (LoadPartAt s f w k n) = IsByte s × (IsField f w × IsByte n)
IsInstr elements (StorePartAt s f w k n) = IsByte s × (IsField f w × IsByte n)
IsInstr elements i = Unit {0}
