-- What each instruction is: its sort, with the arguments. The machine and the rule on valid code go by sorts.
use Rattle.std.specs.Prelude.{ℕ, Bool, ℤ, pos, ◌+ℤ◌, ◌-ℤ◌, ◌*ℤ◌, neg_ℤ, int_div, int_rem, bit_and, bit_or, bit_xor, Option, Some, None, if◌then◌else◌}
use Rattle.bit_field.specs.Atom.{new_atom}
use Rattle.window_sites.specs.Window.{WindowValue, live_at, is_empty_at}
use Rattle.sat_math.specs.declared.Kind.{Kind}
use Rattle.sat_math.specs.declared.NumType.{NumType}
use Rattle.sat_math.specs.declared.Arith.{Arith}
use Rattle.sat_math.specs.declared.Arith.TheVariants.{Int32, Unsigned32, Int64, Unsigned64}
use Rattle.sat_math.specs.declared.CompareOp.TheVariants.{Eq as EqOp, Ne as NeOp, Lt as LtOp, Le as LeOp, Gt as GtOp, Ge as GeOp}
use Rattle.sat_math.specs.Numbers.{cast}
use Rattle.sat_math.specs.Operations.{saturate, complement, of_bool, is_zero, low64, shifted_up, shifted_down, comparison, one_in}
use Rattle.datum.specs.declared.Datum.{Datum}
use Rattle.datum.specs.declared.Datum.TheVariants.{Number as ANumber, Atom as AnAtom}
use Rattle.stack_code.specs.declared.instr.Operand.{Operand}
use Rattle.stack_code.specs.declared.instr.Operand.TheVariants.{Number, Atom}
use Rattle.stack_code.specs.declared.instr.Instr.{Instr}
use Rattle.stack_code.specs.declared.instr.Instr.TheVariants.{PushNum, PushAtom, LoadLocal, StoreLocal, Pop, LoadField, StoreField, LoadPart, StorePart, LoadSelf, LoadSite, StoreSite, Swap, IsLive, IsEmpty, RandCreate, RandOneIn, IsKind, AddI, SubI, MulI, DivI, RemI, AddU, SubU, MulU, DivU, RemU, NegI, And, Or, Xor, NotW, Shl, Shr, Fit, NotB, Eq, Ne, Lt, Le, Gt, Ge, Jump, JumpFalse, Turn, Call, Return, ReturnVoid, AddL, SubL, MulL, DivL, RemL, AddV, SubV, MulV, DivV, RemV, NegL, Dup, LoadFieldAt, StoreFieldAt, LoadPartAt, StorePartAt}

-- what a datum is
abbrev pub kind_of : Datum → Operand
kind_of (ANumber v) = Number
kind_of (AnAtom a) = Atom

-- a type of numbers
abbrev pub num_type : Kind → ℕ → NumType
num_type k w = record { kind = k; width = w }

-- the sorts of instructions
pub data Sort : Type 0 where
  -- gives a datum
  Give : (x : Datum) → Sort
  -- an operator on one number, and on two, which may fail
  One : (f : ℤ → ℤ) → Sort
  Two : (f : ℤ → ℤ → Option ℤ) → Sort
  -- a slot read and written
  Load : (s : ℕ) → Sort
  Store : (s : ℕ) → Sort
  Drop : Sort
  -- a field of the atom at the centre read and written, from a first bit on
  Field : (f : ℕ) → (t : NumType) → Sort
  SetField : (f : ℕ) → (t : NumType) → Sort
  -- the same of the atom in a slot
  Part : (s f : ℕ) → (t : NumType) → Sort
  SetPart : (s f : ℕ) → (t : NumType) → Sort
  -- the atom at the centre
  Own : Sort
  -- a site's atom read, written, and exchanged with another's
  Site : Sort
  SetSite : Sort
  Exchange : Sort
  -- a test of a site, and of the type of an atom
  Ask : (f : WindowValue → ℕ → Bool) → Sort
  Same : (k : ℕ) → Sort
  -- a number made of the next random word modulo a bound
  Draw : (f : ℕ → ℤ) → Sort
  Double : Sort
  -- an element of an array of n fields read and written
  FieldAt : (f : ℕ) → (t : NumType) → (n : ℕ) → Sort
  SetFieldAt : (f : ℕ) → (t : NumType) → (n : ℕ) → Sort
  PartAt : (s f : ℕ) → (t : NumType) → (n : ℕ) → Sort
  SetPartAt : (s f : ℕ) → (t : NumType) → (n : ℕ) → Sort
  -- jumps, and a turn taken
  Goto : (p : ℕ) → Sort
  GotoFalse : (p : ℕ) → Sort
  Take : Sort
  -- a call, a return with an operand, and one without
  Enter : (f : ℕ) → Sort
  GiveBack : Sort
  Leave : Sort

-- an operator that is exact, and then clamped
abbrev pub exact : Arith → (ℤ → ℤ → ℤ) → ℤ → ℤ → Option ℤ
exact how f a b = Some (saturate how (f a b))

-- an operator that fails at 0
abbrev pub divide : Arith → (ℤ → ℤ → ℤ) → ℤ → ℤ → Option ℤ
divide how f a b = if is_zero b then None else Some (saturate how (f a b))

abbrev pub sum : ℤ → ℤ → ℤ
sum a b = a +ℤ b

abbrev pub difference : ℤ → ℤ → ℤ
difference a b = a -ℤ b

abbrev pub product : ℤ → ℤ → ℤ
product a b = a *ℤ b

abbrev pub negate : Arith → ℤ → ℤ
negate how a = saturate how (neg_ℤ a)

abbrev pub on_bits : (ℕ → ℕ → ℕ) → ℤ → ℤ → Option ℤ
on_bits f a b = Some (pos (f (low64 a) (low64 b)))

abbrev pub flip : ℕ → ℤ → ℤ
flip w a = pos (complement w (low64 a))

abbrev pub not_bool : ℤ → ℤ
not_bool v = of_bool (is_zero v)

-- the sort of each instruction
abbrev pub sort : Instr → Sort
sort (PushNum v) = Give (ANumber v)
sort (PushAtom k) = Give (AnAtom (new_atom k))
sort (LoadLocal s) = Load s
sort (StoreLocal s) = Store s
sort Pop = Drop
sort (LoadField f w k) = Field f (num_type k w)
sort (StoreField f w k) = SetField f (num_type k w)
sort (LoadPart s f w k) = Part s f (num_type k w)
sort (StorePart s f w k) = SetPart s f (num_type k w)
sort LoadSelf = Own
sort LoadSite = Site
sort StoreSite = SetSite
sort Swap = Exchange
sort IsLive = Ask live_at
sort IsEmpty = Ask is_empty_at
sort RandCreate = Draw pos
sort RandOneIn = Draw one_in
sort (IsKind k) = Same k
sort AddI = Two (exact Int32 sum)
sort SubI = Two (exact Int32 difference)
sort MulI = Two (exact Int32 product)
sort DivI = Two (divide Int32 int_div)
sort RemI = Two (divide Int32 int_rem)
sort AddU = Two (exact Unsigned32 sum)
sort SubU = Two (exact Unsigned32 difference)
sort MulU = Two (exact Unsigned32 product)
sort DivU = Two (divide Unsigned32 int_div)
sort RemU = Two (divide Unsigned32 int_rem)
sort NegI = One (negate Int32)
sort And = Two (on_bits bit_and)
sort Or = Two (on_bits bit_or)
sort Xor = Two (on_bits bit_xor)
sort (NotW w) = One (flip w)
sort (Shl w) = Two (shifted_up w)
sort Shr = Two shifted_down
sort (Fit k w) = One (cast (num_type k w))
sort NotB = One not_bool
sort Eq = Two (comparison EqOp)
sort Ne = Two (comparison NeOp)
sort Lt = Two (comparison LtOp)
sort Le = Two (comparison LeOp)
sort Gt = Two (comparison GtOp)
sort Ge = Two (comparison GeOp)
sort (Jump p) = Goto p
sort (JumpFalse p) = GotoFalse p
sort Turn = Take
sort (Call f) = Enter f
sort Return = GiveBack
sort ReturnVoid = Leave
sort AddL = Two (exact Int64 sum)
sort SubL = Two (exact Int64 difference)
sort MulL = Two (exact Int64 product)
sort DivL = Two (divide Int64 int_div)
sort RemL = Two (divide Int64 int_rem)
sort AddV = Two (exact Unsigned64 sum)
sort SubV = Two (exact Unsigned64 difference)
sort MulV = Two (exact Unsigned64 product)
sort DivV = Two (divide Unsigned64 int_div)
sort RemV = Two (divide Unsigned64 int_rem)
sort NegL = One (negate Int64)
sort Dup = Double
sort (LoadFieldAt f w k n) = FieldAt f (num_type k w) n
sort (StoreFieldAt f w k n) = SetFieldAt f (num_type k w) n
sort (LoadPartAt s f w k n) = PartAt s f (num_type k w) n
sort (StorePartAt s f w k n) = SetPartAt s f (num_type k w) n
