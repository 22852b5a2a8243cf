-- Which code is valid: one pass over the places of each function finds the kinds of operands at each place.
use Rattle.std.specs.Prelude.{ℕ, zero, suc, ◌+◌, ◌-◌, ◌*◌, ◌^◌, nat_lt, nat_le, ◌==◌, Bool, true, false, ◌&&◌, ℤ, pos, negsuc, Option, Some, None, is_some, is_none, option_and_then, List, [], ◌∷◌, length, reverse, take, drop, replicate, slice_get, slice_set, if◌then◌else◌}
use Rattle.sat_math.specs.declared.Kind.TheVariants.{Bits}
use Rattle.sat_math.specs.declared.NumType.{NumType}
use Rattle.sat_math.specs.Numbers.{least_width, greatest_width}
use Rattle.stack_code.specs.Sorts.{num_type, kind_of, Sort, Give, One, Two, Load, Store, Drop, Field, SetField, Part, SetPart, Own, Site, SetSite, Exchange, Ask, Draw, Same, Double, FieldAt, SetFieldAt, PartAt, SetPartAt, Goto, GotoFalse, Take, Enter, GiveBack, Leave, sort}
use Rattle.stack_code.specs.Machine.{FunctionValue, CodeValue}
use Rattle.datum.specs.declared.Datum.TheVariants.{Number as ANumber}
use Rattle.stack_code.specs.declared.instr.Operand.{Operand}
use Rattle.stack_code.specs.declared.instr.Operand.TheVariants.{Number, Atom}
use Rattle.stack_code.specs.declared.instr.Answer.{Answer}
use Rattle.stack_code.specs.declared.instr.Answer.TheVariants.{Nothing, Number as NumberBack, Atom as AtomBack}
use Rattle.stack_code.specs.declared.instr.Instr.{Instr}
use Rattle.stack_code.specs.declared.instr.Instr.TheVariants.{NotW, Shl, Fit, Turn, Jump}
use Rattle.bit_field.specs.declared.TheConstants.{STATE_BITS}
use Rattle.stack_code.specs.declared.limits.TheConstants.{MOST_INSTRS, MOST_OPERANDS, MOST_SLOTS}

infixl 10 ◌>>=◌
-- what comes next, if there is something to go on with
abbrev pub ◌>>=◌ : {A B : Type 0} → Option A → (A → Option B) → Option B
o >>= next = option_and_then next o

-- Kinds of operands

-- a type whose width its kind allows
abbrev pub type_fits : NumType → Bool
type_fits t = nat_le (least_width t.kind) t.width && nat_le t.width (greatest_width t.kind)

-- the kinds of a list of operands, the topmost first
abbrev pub Kinds : Type 0
Kinds = List Operand

abbrev pub same_kind : Operand → Operand → Bool
same_kind Number Number = true
same_kind Number Atom = false
same_kind Atom Number = false
same_kind Atom Atom = true

abbrev pub same_kinds : Kinds → Kinds → Bool
same_kinds [] [] = true
same_kinds [] (y ∷ ys) = false
same_kinds (x ∷ xs) [] = false
same_kinds (x ∷ xs) (y ∷ ys) = same_kind x y && same_kinds xs ys

-- the kinds without the topmost, if that is of this kind
abbrev pub pop : Operand → Kinds → Option Kinds
pop k [] = None
pop k (x ∷ ks) = if same_kind k x then Some ks else None

-- the kinds without the topmost, whatever its kind
abbrev pub pop_any : Kinds → Option Kinds
pop_any [] = None
pop_any (x ∷ ks) = Some ks

-- one more popped, and a kind pushed, if there are kinds
abbrev pub and_pop : Operand → Option Kinds → Option Kinds
and_pop k None = None
and_pop k (Some ks) = pop k ks

abbrev pub push : Operand → Option Kinds → Option Kinds
push k None = None
push k (Some ks) = Some (k ∷ ks)

-- numbers in the place of numbers: one for one, two for one, and one for two
abbrev pub number_for_one : Kinds → Option Kinds
number_for_one ks = push Number (pop Number ks)

abbrev pub two_for_one : Kinds → Option Kinds
two_for_one ks = push Number (push Number (pop Number ks))

abbrev pub number_for_two : Kinds → Option Kinds
number_for_two ks = push Number (and_pop Number (pop Number ks))

-- the kind of a slot pushed, and popped, if there is such a slot
abbrev pub push_slot : Option Operand → Kinds → Option Kinds
push_slot None ks = None
push_slot (Some k) ks = Some (k ∷ ks)

abbrev pub pop_slot : Option Operand → Kinds → Option Kinds
pop_slot None ks = None
pop_slot (Some k) ks = pop k ks

-- what is left, if the slot holds an atom
abbrev pub if_atom : Option Operand → Option Kinds → Option Kinds
if_atom None r = None
if_atom (Some Number) r = None
if_atom (Some Atom) r = r

-- a field of the atom in a slot read and written, and an element of an array in it, after its index
abbrev pub push_part : Option Operand → Kinds → Option Kinds
push_part slot ks = if_atom slot (Some (Number ∷ ks))

abbrev pub pop_part : Option Operand → Kinds → Option Kinds
pop_part slot ks = if_atom slot (pop Number ks)

abbrev pub push_element : Option Operand → Kinds → Option Kinds
push_element slot ks = if_atom slot (number_for_one ks)

abbrev pub pop_element : Option Operand → Kinds → Option Kinds
pop_element slot ks = if_atom slot (and_pop Number (pop Number ks))

-- the kinds after a plain instruction, if it finds those that it takes; the function has slots of these kinds
abbrev pub after : Kinds → Sort → Kinds → Option Kinds
after slots (Give x) ks = Some (kind_of x ∷ ks)
after slots (One f) ks = number_for_one ks
after slots (Two f) ks = number_for_two ks
after slots (Load i) ks = push_slot (slice_get slots i) ks
after slots (Store i) ks = pop_slot (slice_get slots i) ks
after slots Drop ks = pop_any ks
after slots (Field f t) ks = Some (Number ∷ ks)
after slots (SetField f t) ks = pop Number ks
after slots (Part i f t) ks = push_part (slice_get slots i) ks
after slots (SetPart i f t) ks = pop_part (slice_get slots i) ks
after slots Own ks = Some (Atom ∷ ks)
after slots Site ks = push Atom (pop Number ks)
after slots SetSite ks = and_pop Number (pop Atom ks)
after slots Exchange ks = and_pop Number (pop Number ks)
after slots (Ask f) ks = number_for_one ks
after slots (Draw f) ks = number_for_one ks
after slots (Same k) ks = push Number (pop Atom ks)
after slots Double ks = two_for_one ks
after slots (FieldAt f t n) ks = number_for_one ks
after slots (SetFieldAt f t n) ks = and_pop Number (pop Number ks)
after slots (PartAt l f t n) ks = push_element (slice_get slots l) ks
after slots (SetPartAt l f t n) ks = pop_element (slice_get slots l) ks
after slots (Goto p) ks = None
after slots (GotoFalse p) ks = None
after slots Take ks = None
after slots (Enter f) ks = None
after slots GiveBack ks = None
after slots Leave ks = None

-- Arguments of instructions

-- n fields of an allowed type, at least one, lie one after another in an atom's state, from bit f on
abbrev pub field_fits : ℕ → NumType → ℕ → Bool
field_fits f t n = type_fits t && nat_le 1 n && nat_le (f + n * t.width) STATE_BITS

-- a number that an operand can be: from -2^63 to 2^64 - 1
abbrev pub number_fits : ℤ → Bool
number_fits (pos n) = nat_lt n (2 ^ 64)
number_fits (negsuc n) = nat_lt n (2 ^ 63)

-- the arguments of a sort are allowed, but for slots, places and functions
abbrev pub sort_fits : Sort → Bool
sort_fits (Give (ANumber v)) = number_fits v
sort_fits (Field f t) = field_fits f t 1
sort_fits (SetField f t) = field_fits f t 1
sort_fits (Part i f t) = field_fits f t 1
sort_fits (SetPart i f t) = field_fits f t 1
sort_fits (FieldAt f t n) = field_fits f t n
sort_fits (SetFieldAt f t n) = field_fits f t n
sort_fits (PartAt l f t n) = field_fits f t n
sort_fits (SetPartAt l f t n) = field_fits f t n
sort_fits so = true

-- the same of an instruction; this is also where the widths of operators are tested
abbrev pub args_fit : Instr → Bool
args_fit (NotW w) = type_fits (num_type Bits w)
args_fit (Shl w) = type_fits (num_type Bits w)
args_fit (Fit k w) = type_fits (num_type k w)
args_fit i = sort_fits (sort i)

-- Notes

-- the kinds noted at each place, if any are
abbrev pub Notes : Type 0
Notes = List (Option Kinds)

-- the notes as they are, if two lists are the same
abbrev pub if_same : Kinds → Kinds → Notes → Option Notes
if_same a b notes = if same_kinds a b then Some notes else None

-- a list noted over what is there: nothing yet, or a list, which must be the same
abbrev pub note_over : Notes → ℕ → Kinds → Option (Option Kinds) → Option Notes
note_over notes p ks None = None
note_over notes p ks (Some None) = Some (slice_set notes p (Some ks))
note_over notes p ks (Some (Some old)) = if_same old ks notes

-- a list noted at a place, unless another stands there
abbrev pub note : Notes → ℕ → Kinds → Option Notes
note notes p ks = note_over notes p ks (slice_get notes p)

-- what falls through and what is noted, if they agree; if there is neither, no operands
abbrev pub arrive_with : Option Kinds → Option (Option Kinds) → Option Kinds
arrive_with here None = None
arrive_with None (Some None) = Some []
arrive_with (Some ks) (Some None) = Some ks
arrive_with None (Some (Some ks)) = Some ks
arrive_with (Some a) (Some (Some b)) = if same_kinds a b then Some a else None

-- the list of a place, from what falls through to it and what is noted there
abbrev pub arrive : Option Kinds → Notes → ℕ → Option Kinds
arrive here notes p = arrive_with here (slice_get notes p)

-- Where a place leads

-- the list that falls through to the next place, and the target of a jump with the list there
pub record Exits : Type 0 where
  pub falls : Option Kinds
  pub jumps : Option (ℕ × Kinds)

-- on to the next place with this list, if there is one
abbrev pub falls_exit : Option Kinds → Option Exits
falls_exit None = None
falls_exit (Some ks) = Some (record { falls = Some ks; jumps = None })

-- a jump to q with this list, if it is allowed
abbrev pub jump_exit : Bool → ℕ → Kinds → Option Exits
jump_exit b q ks = if b then Some (record { falls = None; jumps = Some (q, ks) }) else None

-- on to the next place or to q, with this list, if the jump is allowed
abbrev pub fork_exit : Bool → ℕ → Option Kinds → Option Exits
fork_exit b q None = None
fork_exit b q (Some ks) = if b then Some (record { falls = Some ks; jumps = Some (q, ks) }) else None

-- the end of the function, if it is allowed
abbrev pub end_exit : Bool → Option Exits
end_exit b = if b then Some (record { falls = None; jumps = None }) else None

-- whether there is an instruction and it is `Turn`
abbrev pub is_turn : Option Instr → Bool
is_turn None = false
is_turn (Some Turn) = true
is_turn (Some i) = false

-- the instruction before a place
abbrev pub instr_before : List Instr → ℕ → Option Instr
instr_before is zero = None
instr_before is (suc p) = slice_get is p

-- a function in its code, and the place after its last instruction
pub record Around : Type 0 where
  pub code : CodeValue
  pub function : FunctionValue
  pub end : ℕ

abbrev pub around : CodeValue → FunctionValue → ℕ → Around
around c g end = record { code = c; function = g; end = end }

-- the target of an instruction that is a jump back from place p, and of the one at place p of a list
abbrev pub back_by : ℕ → Option Instr → Option ℕ
back_by p None = None
back_by p (Some (Jump q)) = if nat_lt q p then Some q else None
back_by p (Some i) = None

unfoldable pub back_of : List Instr → ℕ → Option ℕ
back_of is p = back_by p (slice_get is p)

-- a jump forward from p to q: inside the function, and not to a jump back
abbrev pub forward_fits : Around → ℕ → ℕ → Bool
forward_fits a p q = nat_lt p q && nat_lt q a.end && is_none (back_of a.code.instrs q)

-- a jump back from p to q: inside the function, straight after a `Turn`, and not to a jump back
abbrev pub back_fits : Around → ℕ → ℕ → Bool
back_fits a p q = nat_lt q p && nat_le a.function.first q && is_turn (instr_before a.code.instrs p) && is_none (back_of a.code.instrs q)

-- a jump from p to q
abbrev pub jump_fits : Around → ℕ → ℕ → Bool
jump_fits a p q = if nat_lt p q then forward_fits a p q else back_fits a p q

-- the result of a function, if it has one, on top of a list
abbrev pub answer_on : Answer → Kinds → Kinds
answer_on Nothing ks = ks
answer_on NumberBack ks = Number ∷ ks
answer_on AtomBack ks = Atom ∷ ks

-- the same, if there is a list
abbrev pub map_answer : Answer → Option Kinds → Option Kinds
map_answer r None = None
map_answer r (Some ks) = Some (answer_on r ks)

-- the arguments of a call are on top, the last of them topmost, and they are of the kinds of the function's first slots
abbrev pub finds_arguments : FunctionValue → Kinds → Bool
finds_arguments g ks = nat_le g.params (length g.slots) && same_kinds (reverse (take g.params ks)) (take g.params g.slots)

-- the list after a call, which takes the arguments and leaves the result, if there is such a function
abbrev pub after_call : Option FunctionValue → Kinds → Option Kinds
after_call None ks = None
after_call (Some g) ks = if finds_arguments g ks then Some (answer_on g.answer (drop g.params ks)) else None

-- the result of a function is on top
abbrev pub answer_found : Answer → Kinds → Bool
answer_found r [] = false
answer_found Nothing (k ∷ ks) = false
answer_found NumberBack (k ∷ ks) = same_kind Number k
answer_found AtomBack (k ∷ ks) = same_kind Atom k

-- a function without a result
abbrev pub is_nothing : Answer → Bool
is_nothing Nothing = true
is_nothing NumberBack = false
is_nothing AtomBack = false

-- where an instruction at place p leads from a list
abbrev pub exits : Around → ℕ → Sort → Kinds → Option Exits
exits a p (Goto q) ks = jump_exit (jump_fits a p q) q ks
exits a p (GotoFalse q) ks = fork_exit (forward_fits a p q) q (pop Number ks)
exits a p Take ks = falls_exit (Some ks)
exits a p (Enter f) ks = falls_exit (after_call (slice_get a.code.functions f) ks)
exits a p GiveBack ks = end_exit (answer_found a.function.answer ks)
exits a p Leave ks = end_exit (is_nothing a.function.answer)
exits a p so ks = falls_exit (after a.function.slots so ks)

-- the same, if the arguments of the instruction are allowed and there are at most 512 operands
abbrev pub exits_of : Around → Instr → ℕ → Kinds → Option Exits
exits_of a i p ks = if args_fit i && nat_le (length ks) MOST_OPERANDS then exits a p (sort i) ks else None

-- The pass

-- how the pass comes to a place: with the list that falls through, if one does, and with the notes so far
pub record Passing : Type 0 where
  pub here : Option Kinds
  pub notes : Notes

abbrev pub passing : Option Kinds → Notes → Passing
passing here notes = record { here = here; notes = notes }

-- the list of a jump noted at its target, if there is a jump
abbrev pub note_exit : Notes → Option (ℕ × Kinds) → Option Notes
note_exit n None = Some n
note_exit n (Some j) = note n j.0 j.1

-- an exit taken: its jump is noted, and what falls through comes to the next place
abbrev pub take_exit : Notes → Exits → Option Passing
take_exit notes x = do
  noted ← note_exit notes x.jumps
  Some (passing x.falls noted)

-- Place p, which leads where `leads` says: its list is what arrives there, and is noted; then its exit is taken.
abbrev pub pass_place : (Kinds → Option Exits) → ℕ → Option Kinds → Notes → Option Passing
pass_place leads p here notes = do
  ks ← arrive here notes p
  x ← leads ks
  take_exit (slice_set notes p (Some ks)) x

-- The pass over the instructions of a function from place p on: the notes at the end. Nothing falls through the end.
unfoldable pub pass : Around → List Instr → ℕ → Option Kinds → Notes → Option Notes
pass a [] p None notes = Some notes
pass a [] p (Some ks) notes = None
pass a (i ∷ is) p here notes = do
  next ← pass_place (exits_of a i p) p here notes
  pass a is (p + 1) next.here next.notes

-- a function begins at p, ends later, has no more parameters than slots, and has at most 72 slots
abbrev pub function_fits : FunctionValue → ℕ → ℕ → Bool
function_fits g p end = g.first == p && nat_lt p end && nat_le g.params (length g.slots) && nat_le (length g.slots) MOST_SLOTS

-- the instructions from place p up to the end
abbrev pub stretch : CodeValue → ℕ → ℕ → List Instr
stretch c p end = take (end - p) (drop p c.instrs)

-- the pass over a function that stands from p up to the end, and starts with no operands
abbrev pub pass_function : CodeValue → FunctionValue → ℕ → ℕ → Notes → Option Notes
pass_function c g p end notes = if function_fits g p end then pass (around c g end) (stretch c p end) p (Some []) notes else None

-- where the first of these functions begins, or the end of the code if there is none
abbrev pub end_with : ℕ → List FunctionValue → ℕ
end_with len [] = len
end_with len (g ∷ gs) = g.first

-- the pass over these functions, which stand one after another from p up to the end of the code
unfoldable pub pass_all : CodeValue → List FunctionValue → ℕ → Notes → Option Notes
pass_all c [] p notes = if p == length c.instrs then Some notes else None
pass_all c (g ∷ gs) p notes = do
  noted ← pass_function c g p (end_with (length c.instrs) gs) notes
  pass_all c gs (end_with (length c.instrs) gs) noted

-- Valid code

-- there is a first function, and it has no parameters and no result
abbrev pub first_fits : List FunctionValue → Bool
first_fits [] = false
first_fits (g ∷ gs) = g.params == 0 && is_nothing g.answer

-- there are 1 to 65,536 instructions
abbrev pub length_fits : ℕ → Bool
length_fits n = nat_le 1 n && nat_le n MOST_INSTRS

-- nothing noted at any place
abbrev pub no_notes : CodeValue → Notes
no_notes c = replicate (length c.instrs) None

-- Code is valid if its length is allowed, its first function can begin an event, and the pass over its functions comes to the end.
unfoldable pub valid : CodeValue → Bool
valid c = length_fits (length c.instrs) && first_fits c.functions && is_some (pass_all c c.functions 0 (no_notes c))
