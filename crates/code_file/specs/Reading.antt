-- Reading from left to right: a value and the bytes after it, or how many bytes are left from the first wrong one on.
use Rattle.std.specs.Prelude.{ℕ, zero, suc, ◌≡◌, ◌+◌, ◌-◌, ◌*◌, ◌/◌, ◌^◌, ◌==◌, nat_le, ℤ, pos, negsuc, Bool, ◌&&◌, ◌||◌, List, [], ◌∷◌, ◌++◌, length, slice_index_or, Result, Ok, Err, if◌then◌else◌}
use Rattle.sat_math.specs.declared.Kind.{Kind}
use Rattle.sat_math.specs.declared.Kind.TheVariants as kind
use Rattle.stack_code.specs.Machine.{FunctionValue}
use Rattle.stack_code.specs.declared.instr.Answer.{Answer}
use Rattle.stack_code.specs.declared.instr.Answer.TheVariants.{Nothing, Number as NumberBack, Atom as AtomBack}
use Rattle.stack_code.specs.declared.instr.Operand.{Operand}
use Rattle.stack_code.specs.declared.instr.Operand.TheVariants.{Number, Atom}
use Rattle.stack_code.specs.declared.instr.Instr.{Instr}
use Rattle.stack_code.specs.declared.instr.Instr.TheVariants.{PushNum, PushAtom, LoadLocal, StoreLocal, Pop, LoadField, StoreField, LoadPart, StorePart, LoadSelf, LoadSite, StoreSite, Swap, IsLive, IsEmpty, RandCreate, RandOneIn, IsKind, AddI, SubI, MulI, DivI, RemI, AddU, SubU, MulU, DivU, RemU, NegI, And, Or, Xor, NotW, Shl, Shr, Fit, NotB, Eq, Ne, Lt, Le, Gt, Ge, Jump, JumpFalse, Turn, Call, Return, ReturnVoid, AddL, SubL, MulL, DivL, RemL, AddV, SubV, MulV, DivV, RemV, NegL, Dup, LoadFieldAt, StoreFieldAt, LoadPartAt, StorePartAt}
use Rattle.code_file.specs.Form.{CodesValue, ElementValue}
use Rattle.code_file.specs.Words.{stands}
use Rattle.code_file.specs.declared.field.Field.{Field}
use Rattle.code_file.specs.declared.halt.Halt.{Halt}
use Rattle.code_file.specs.declared.halt.Halt.TheVariants.{NoMemory, Bad}
use Rattle.code_file.specs.declared.names.NameForm.{NameForm}
use Rattle.code_file.specs.declared.names.NameForm.TheVariants.{OfElement, OfFunction}
use Rattle.feast_base.specs.declared.type_name.TheConstants.{LONGEST_NAME}
use Rattle.bit_field.specs.declared.TheConstants.{STATE_BITS}
use Rattle.code_file.specs.declared.elements.TheConstants.{MOST_ELEMENTS}
use Rattle.stack_code.specs.declared.limits.TheConstants.{MOST_INSTRS, MOST_SLOTS}
use Rattle.feast_base.specs.declared.limits.TheConstants.{MOST_PARAMS}

abbrev pub Reader : Type 0 → Type 0
Reader A = List ℕ → Result (A × List ℕ) ℕ

infixl 10 ◌>>=◌
abbrev pub ◌>>=◌ : {A B : Type 0} → Result A ℕ → (A → Result B ℕ) → Result B ℕ
(Ok x) >>= f = f x
(Err e) >>= f = Err e

-- what a call returned, seen by `view`, is what the reader gives, unless memory ran out
abbrev pub Fails : {Y : Type 0} → Halt → Result Y ℕ → Type 0
Fails NoMemory read = Unit {0}
Fails (Bad left) read = read ≡ Err left

abbrev pub Gives : {X Y : Type 0} → (X → Y) → Result X Halt → Result Y ℕ → Type 0
Gives view (Ok x) read = read ≡ Ok (view x)
Gives view (Err e) read = Fails e read

-- a value made of what was read
abbrev pub map_reader : {A B : Type 0} → Reader A → (A → B) → Reader B
map_reader r f bytes = r bytes >>= λ x. Ok (f x.0, x.1)

-- one value and then another
abbrev pub both : {A B : Type 0} → Reader A → Reader B → Reader (A × B)
both r s bytes = r bytes >>= λ x. s x.1 >>= λ y. Ok ((x.0, y.0), y.1)

-- this many values, each read knowing those before it and how many follow
unfoldable pub gather : {A : Type 0} → (List A → ℕ → Reader A) → ℕ → List A → Reader (List A)
gather item zero done bytes = Ok (done, bytes)
gather item (suc n) done bytes = item done n bytes >>= λ x. gather item n (done ++ x.0 ∷ []) x.1

-- this many values, each read in the same way
abbrev pub times : {A : Type 0} → Reader A → ℕ → Reader (List A)
times item n bytes = gather (λ done left. item) n [] bytes

-- Numbers

-- a byte that passes a test
abbrev pub byte_at : (ℕ → Bool) → Reader ℕ
byte_at ok [] = Err 0
byte_at ok (b ∷ rest) = if ok b then Ok (b, rest) else Err (suc (length rest))

-- whether the first bytes of a number may be v, if w more follow and the number is between two bounds
abbrev pub may_be : ℕ → ℕ → ℕ → ℕ → Bool
may_be w least greatest v = nat_le (least / 2 ^ (8 * w)) v && nat_le v (greatest / 2 ^ (8 * w))

-- the next byte of a number whose bytes before it are v
abbrev pub digit_at : ℕ → ℕ → ℕ → ℕ → Reader ℕ
digit_at w least greatest v bytes = byte_at (λ b. may_be w least greatest (v * 256 + b)) bytes >>= λ b. Ok (v * 256 + b.0, b.1)

-- the last w bytes of a number whose bytes before them are v
unfoldable pub number_from : ℕ → ℕ → ℕ → ℕ → Reader ℕ
number_from zero least greatest v bytes = Ok (v, bytes)
number_from (suc w) least greatest v bytes = digit_at w least greatest v bytes >>= λ x. number_from w least greatest x.0 x.1

-- a number of w bytes between two bounds
abbrev pub number_at : ℕ → ℕ → ℕ → Reader ℕ
number_at w least greatest bytes = number_from w least greatest 0 bytes

-- a number with its sign
abbrev pub is_sign : ℕ → Bool
is_sign b = b == 0 || b == 255

abbrev pub signed_rest : ℕ → Reader ℤ
signed_rest s bytes = if s == 0 then map_reader (number_at 8 0 (2 ^ 64 - 1)) pos bytes else map_reader (number_at 8 (2 ^ 63) (2 ^ 64 - 1)) (λ n. negsuc (2 ^ 64 - 1 - n)) bytes

unfoldable pub signed_at : Reader ℤ
signed_at bytes = byte_at is_sign bytes >>= λ s. signed_rest s.0 s.1

-- the length of a list, and the list
abbrev pub counted_at : {A : Type 0} → ℕ → ℕ → ℕ → Reader A → Reader (List A)
counted_at w least greatest item bytes = number_at w least greatest bytes >>= λ n. times item n.0 n.1

-- Names and functions

unfoldable pub letters_at : NameForm → ℕ → Reader (List ℕ)
letters_at form n bytes = gather (λ done left. byte_at (stands form done left)) n [] bytes

unfoldable pub name_at : NameForm → Reader (List ℕ)
name_at form bytes = number_at 4 1 LONGEST_NAME bytes >>= λ n. letters_at form n.0 n.1

abbrev pub operand_of : ℕ → Operand
operand_of k = if k == 0 then Number else Atom

abbrev pub answer_of : ℕ → Answer
answer_of k = if k == 0 then Nothing else if k == 1 then NumberBack else AtomBack

abbrev pub kind_of : ℕ → Kind
kind_of k = if k == 0 then kind.Int else if k == 1 then kind.Unsigned else if k == 2 then kind.Bits else if k == 3 then kind.Bool else kind.Unary

unfoldable pub slot_at : Reader Operand
slot_at bytes = map_reader (number_at 1 0 1) operand_of bytes

unfoldable pub answer_at : Reader Answer
answer_at bytes = map_reader (number_at 1 0 2) answer_of bytes

unfoldable pub slots_at : Reader (List Operand)
slots_at bytes = counted_at 1 0 MOST_SLOTS slot_at bytes

unfoldable pub function_at : Reader FunctionValue
function_at bytes = do
  name ← name_at OfFunction bytes
  base ← number_at 1 0 STATE_BITS name.1
  first ← number_at 4 0 (2 ^ 32 - 1) base.1
  params ← number_at 1 0 MOST_PARAMS first.1
  answer ← answer_at params.1
  slots ← slots_at answer.1
  Ok (record { name = name.0; base = base.0; first = first.0; params = params.0; slots = slots.0; answer = answer.0 }, slots.1)

unfoldable pub functions_at : Reader (List FunctionValue)
functions_at bytes = counted_at 4 1 MOST_INSTRS function_at bytes

-- Instructions

unfoldable pub kind_at : Reader Kind
kind_at bytes = map_reader (number_at 1 0 4) kind_of bytes

unfoldable pub any_byte : Reader ℕ
any_byte bytes = number_at 1 0 255 bytes

unfoldable pub place_at : Reader ℕ
place_at bytes = number_at 4 0 (2 ^ 32 - 1) bytes

unfoldable pub width_at : Reader ℕ
width_at bytes = number_at 1 1 64 bytes

unfoldable pub type_at : ℕ → Reader ℕ
type_at greatest bytes = number_at 2 0 greatest bytes

unfoldable pub field_at : Reader Field
field_at bytes = do
  first ← any_byte bytes
  width ← any_byte first.1
  kind ← kind_at width.1
  Ok (record { first = first.0; width = width.0; kind = kind.0 }, kind.1)

unfoldable pub part_at : Reader (ℕ × Field)
part_at bytes = both any_byte field_at bytes

unfoldable pub array_at : Reader (Field × ℕ)
array_at bytes = both field_at any_byte bytes

unfoldable pub part_array_at : Reader (ℕ × (Field × ℕ))
part_array_at bytes = both any_byte array_at bytes

unfoldable pub fit_at : Reader (Kind × ℕ)
fit_at bytes = both kind_at any_byte bytes

-- no arguments
abbrev pub plain : Instr → Reader Instr
plain i bytes = Ok (i, bytes)

-- the arguments of each instruction, in the order of the opcodes
abbrev pub args_readers : ℕ → List (Reader Instr)
args_readers most =
    (map_reader signed_at PushNum) ∷
    (map_reader (type_at most) PushAtom) ∷
    (map_reader any_byte LoadLocal) ∷
    (map_reader any_byte StoreLocal) ∷
    (plain Pop) ∷
    (map_reader field_at (λ x. LoadField x.first x.width x.kind)) ∷
    (map_reader field_at (λ x. StoreField x.first x.width x.kind)) ∷
    (map_reader part_at (λ x. LoadPart x.0 x.1.first x.1.width x.1.kind)) ∷
    (map_reader part_at (λ x. StorePart x.0 x.1.first x.1.width x.1.kind)) ∷
    (plain LoadSelf) ∷
    (plain LoadSite) ∷
    (plain StoreSite) ∷
    (plain Swap) ∷
    (plain IsLive) ∷
    (plain IsEmpty) ∷
    (plain RandCreate) ∷
    (plain RandOneIn) ∷
    (map_reader (type_at (2 ^ 16 - 1)) IsKind) ∷
    (plain AddI) ∷
    (plain SubI) ∷
    (plain MulI) ∷
    (plain DivI) ∷
    (plain RemI) ∷
    (plain AddU) ∷
    (plain SubU) ∷
    (plain MulU) ∷
    (plain DivU) ∷
    (plain RemU) ∷
    (plain NegI) ∷
    (plain And) ∷
    (plain Or) ∷
    (plain Xor) ∷
    (map_reader width_at NotW) ∷
    (map_reader width_at Shl) ∷
    (plain Shr) ∷
    (map_reader fit_at (λ x. Fit x.0 x.1)) ∷
    (plain NotB) ∷
    (plain Eq) ∷
    (plain Ne) ∷
    (plain Lt) ∷
    (plain Le) ∷
    (plain Gt) ∷
    (plain Ge) ∷
    (map_reader place_at Jump) ∷
    (map_reader place_at JumpFalse) ∷
    (plain Turn) ∷
    (map_reader place_at Call) ∷
    (plain Return) ∷
    (plain ReturnVoid) ∷
    (plain AddL) ∷
    (plain SubL) ∷
    (plain MulL) ∷
    (plain DivL) ∷
    (plain RemL) ∷
    (plain AddV) ∷
    (plain SubV) ∷
    (plain MulV) ∷
    (plain DivV) ∷
    (plain RemV) ∷
    (plain NegL) ∷
    (plain Dup) ∷
    (map_reader array_at (λ x. LoadFieldAt x.0.first x.0.width x.0.kind x.1)) ∷
    (map_reader array_at (λ x. StoreFieldAt x.0.first x.0.width x.0.kind x.1)) ∷
    (map_reader part_array_at (λ x. LoadPartAt x.0 x.1.0.first x.1.0.width x.1.0.kind x.1.1)) ∷
    (map_reader part_array_at (λ x. StorePartAt x.0 x.1.0.first x.1.0.width x.1.0.kind x.1.1)) ∷
    []

-- the arguments of the instruction of an opcode, in a file of this many elements
unfoldable pub args_at : ℕ → ℕ → Reader Instr
args_at most code bytes = slice_index_or (args_readers most) code (plain Pop) bytes

unfoldable pub instr_at : ℕ → Reader Instr
instr_at most bytes = number_at 1 0 64 bytes >>= λ code. args_at most code.0 code.1

unfoldable pub instrs_at : ℕ → Reader (List Instr)
instrs_at most bytes = counted_at 4 1 MOST_INSTRS (instr_at most) bytes

-- Elements

-- an element of this type number, in a file of this many elements
unfoldable pub element_at : ℕ → ℕ → Reader ElementValue
element_at most kind bytes = do
  name ← name_at OfElement bytes
  functions ← functions_at name.1
  instrs ← instrs_at most functions.1
  Ok (record { name = name.0; code = record { kind = kind; functions = functions.0; instrs = instrs.0 } }, instrs.1)

-- the elements after those that are done, of this many in all
abbrev pub elements_from : ℕ → ℕ → CodesValue → Reader CodesValue
elements_from most = gather (λ done left. element_at most (length done + 1))

unfoldable pub elements_at : Reader CodesValue
elements_at bytes = number_at 2 0 MOST_ELEMENTS bytes >>= λ n. elements_from n.0 n.0 [] n.1

-- a value with nothing after it
abbrev pub alone : {A : Type 0} → A → List ℕ → Result A ℕ
alone x [] = Ok x
alone x (b ∷ rest) = Err (suc (length rest))

-- everything after the first 8 bytes of a file
unfoldable pub body_at : List ℕ → Result CodesValue ℕ
body_at bytes = elements_at bytes >>= λ es. alone es.0 es.1
