-- The stack machine: what each instruction does, and a whole run.
use Rattle.std.specs.Prelude.{ℕ, zero, suc, ◌+◌, ◌*◌, ◌%◌, nat_lt, nat_le, nat_eq, ℤ, pos, negsuc, Option, Some, None, List, [], ◌∷◌, ◌++◌, length, map, reverse, take, drop, slice_get, slice_set, if◌then◌else◌}
use Rattle.datum.specs.Fields.{get_field}
use Rattle.sat_math.specs.Operations.{of_bool, is_zero}
use Rattle.bit_field.specs.Atom.{AtomValue, empty_atom}
use Rattle.bit_field.specs.Words.{with_field}
use Rattle.window_sites.specs.Window.{WindowValue, atom_at, put_at, swap_at, without_centre}
use Rattle.draw_stream.specs.Words.{event_step, event_state}
use Rattle.sat_math.specs.declared.NumType.{NumType}
use Rattle.sat_math.specs.Numbers.{bits, cast}
use Rattle.stack_code.specs.Sorts.{Sort, Give, One, Two, Load, Store, Drop, Field, SetField, Part, SetPart, Own, Site, SetSite, Exchange, Ask, Draw, Same, Double, FieldAt, SetFieldAt, PartAt, SetPartAt, Goto, GotoFalse, Take, Enter, GiveBack, Leave, sort}
use Rattle.datum.specs.declared.Datum.{Datum}
use Rattle.datum.specs.declared.Datum.TheVariants.{Number as ANumber, Atom as AnAtom}
use Rattle.stack_code.specs.declared.instr.Operand.{Operand}
use Rattle.stack_code.specs.declared.instr.Operand.TheVariants.{Number, Atom}
use Rattle.stack_code.specs.declared.instr.Answer.{Answer}
use Rattle.stack_code.specs.declared.instr.Instr.{Instr}
use Rattle.feast_base.specs.declared.limits.TheConstants.{MOST_CALLS, MOST_TURNS}

-- a function: its name, the first state bit of the class that it works on, the place of its first instruction, how many of
-- its slots are parameters, the kinds of its slots, and what it gives back
pub record FunctionValue : Type 0 where
  pub name : List ℕ
  pub base : ℕ
  pub first : ℕ
  pub params : ℕ
  pub slots : List Operand
  pub answer : Answer

-- the code of an element: its type number, its functions, and all their instructions
pub record CodeValue : Type 0 where
  pub kind : ℕ
  pub functions : List FunctionValue
  pub instrs : List Instr

-- what a plain instruction works on
pub record Held : Type 0 where
  pub stack : List Datum
  pub slots : List Datum
  pub window : WindowValue
  pub words : ℕ

-- what an instruction leads to
pub data Led (S : Type 0) : Type 0 where
  Goes : (s : S) → Led S
  Fails : (n : ℕ) → Led S
  Ends : (w : WindowValue) → Led S
  Lacks : Led S

-- what a slot holds at first
abbrev pub fill : Operand → Datum
fill Number = ANumber (pos 0)
fill Atom = AnAtom empty_atom

-- these operands, and all else as it was
abbrev pub now : Held → List Datum → Led Held
now h stack = Goes (record h { stack = stack })

-- the atom at the centre, if it has the acting type
abbrev pub own_of : ℕ → WindowValue → Option AtomValue
own_of kind w = if nat_eq (atom_at w 0).kind kind then Some (atom_at w 0) else None

-- what an instruction does with that atom; failure 6 if there is none
abbrev pub on_own : {S : Type 0} → Option AtomValue → (AtomValue → Led S) → Led S
on_own None go = Fails 6
on_own (Some a) go = go a

-- what it does with the atom at the centre, if that has the acting type
abbrev pub at_self : {S : Type 0} → ℕ → WindowValue → (AtomValue → Led S) → Led S
at_self kind w go = on_own (own_of kind w) go

-- what it does with a site, which is 0 to 40; failure 4 otherwise
abbrev pub at_site : {S : Type 0} → ℤ → (ℕ → Led S) → Led S
at_site (negsuc n) go = Fails 4
at_site (pos n) go = if nat_le n 40 then go n else Fails 4

-- what it does with the bound of a random number, which is above 0; failure 5 otherwise
abbrev pub at_bound : {S : Type 0} → ℤ → (ℕ → Led S) → Led S
at_bound (negsuc n) go = Fails 5
at_bound (pos zero) go = Fails 5
at_bound (pos (suc n)) go = go (suc n)

-- what it does with the result of an operator; failure 3 if there is none
abbrev pub result_of : Option ℤ → (ℤ → Led Held) → Led Held
result_of None go = Fails 3
result_of (Some v) go = go v

-- the atom with a field of so many bits set, unless it has type 0
abbrev pub with_part : AtomValue → ℕ → ℕ → ℕ → AtomValue
with_part a f w b = if nat_eq a.kind 0 then a else with_field a f w b

-- what it does with the value of a slot, if there is such a slot
abbrev pub on_slot : Option Datum → (Datum → Led Held) → Led Held
on_slot None go = Lacks
on_slot (Some x) go = go x

-- the atom in a slot
abbrev pub atom_in : Option Datum → Option AtomValue
atom_in None = None
atom_in (Some (ANumber v)) = None
atom_in (Some (AnAtom a)) = Some a

-- what it does with the atom in a slot, if the slot holds one
abbrev pub on_part : Option AtomValue → (AtomValue → Led Held) → Led Held
on_part None go = Lacks
on_part (Some a) go = go a

-- what it does with the topmost operand, or two, and with those below, if the topmost are of its kinds
abbrev pub on_top : List Datum → (Datum → List Datum → Led Held) → Led Held
on_top [] go = Lacks
on_top (x ∷ s) go = go x s

abbrev pub on_number : List Datum → (ℤ → List Datum → Led Held) → Led Held
on_number [] go = Lacks
on_number (ANumber v ∷ s) go = go v s
on_number (AnAtom a ∷ s) go = Lacks

abbrev pub on_atom : List Datum → (AtomValue → List Datum → Led Held) → Led Held
on_atom [] go = Lacks
on_atom (ANumber v ∷ s) go = Lacks
on_atom (AnAtom a ∷ s) go = go a s

abbrev pub on_numbers : List Datum → (ℤ → ℤ → List Datum → Led Held) → Led Held
on_numbers s go = on_number s (λ b s1. on_number s1 (λ a s2. go a b s2))

-- what it does with an index, which is from 0 on below the length; failure 7 otherwise
abbrev pub at_index : {S : Type 0} → ℤ → ℕ → (ℕ → Led S) → Led S
at_index (negsuc i) n go = Fails 7
at_index (pos i) n go = if nat_lt i n then go i else Fails 7

-- the bits that a number is kept in
abbrev pub kept_bits : NumType → ℤ → ℕ
kept_bits t v = bits t (cast t v)

-- another atom at the centre
abbrev pub put_own : Held → List Datum → AtomValue → Led Held
put_own h s a = Goes (record h { stack = s; window = put_at h.window 0 a })

-- another atom in a slot
abbrev pub put_slot : Held → List Datum → ℕ → AtomValue → Led Held
put_slot h s i a = Goes (record h { stack = s; slots = slice_set h.slots i (AnAtom a) })

-- a plain instruction, in an event of this acting type
abbrev pub work : ℕ → Sort → Held → Led Held
work kind (Give x) h = now h (x ∷ h.stack)
work kind (One f) h = on_number h.stack (λ a s. now h (ANumber (f a) ∷ s))
work kind (Two f) h = on_numbers h.stack (λ a b s. result_of (f a b) (λ v. now h (ANumber v ∷ s)))
work kind (Load i) h = on_slot (slice_get h.slots i) (λ x. now h (x ∷ h.stack))
work kind (Store i) h = on_top h.stack (λ x s. Goes (record h { stack = s; slots = slice_set h.slots i x }))
work kind Drop h = on_top h.stack (λ x s. now h s)
work kind (Field f t) h = at_self kind h.window (λ a. now h (ANumber (get_field a f t) ∷ h.stack))
work kind (SetField f t) h = on_number h.stack (λ v s. at_self kind h.window (λ a. put_own h s (with_field a f t.width (kept_bits t v))))
work kind (Part i f t) h = on_part (atom_in (slice_get h.slots i)) (λ a. now h (ANumber (get_field a f t) ∷ h.stack))
work kind (SetPart i f t) h = on_number h.stack (λ v s. on_part (atom_in (slice_get h.slots i)) (λ a. put_slot h s i (with_part a f t.width (kept_bits t v))))
work kind Own h = at_self kind h.window (λ a. now h (AnAtom a ∷ h.stack))
work kind Site h = on_number h.stack (λ i s. at_site i (λ n. now h (AnAtom (atom_at h.window n) ∷ s)))
work kind SetSite h = on_atom h.stack (λ a s. on_number s (λ i s1. at_site i (λ n. Goes (record h { stack = s1; window = put_at h.window n a }))))
work kind Exchange h = on_numbers h.stack (λ i j s. at_site i (λ m. at_site j (λ n. Goes (record h { stack = s; window = swap_at h.window m n }))))
work kind (Ask f) h = on_number h.stack (λ i s. at_site i (λ n. now h (ANumber (of_bool (f h.window n)) ∷ s)))
work kind (Draw f) h = on_number h.stack (λ b s. at_bound b (λ n. Goes (record h { stack = ANumber (f ((event_step h.words).0 % n)) ∷ s; words = (event_step h.words).1 })))
work kind (Same k) h = on_atom h.stack (λ a s. now h (ANumber (of_bool (nat_eq a.kind k)) ∷ s))
work kind Double h = on_number h.stack (λ v s. now h (ANumber v ∷ ANumber v ∷ s))
work kind (FieldAt f t n) h = on_number h.stack (λ i s. at_self kind h.window (λ a. at_index i n (λ j. now h (ANumber (get_field a (f + j * t.width) t) ∷ s))))
work kind (SetFieldAt f t n) h = on_numbers h.stack (λ i v s. at_self kind h.window (λ a. at_index i n (λ j. put_own h s (with_field a (f + j * t.width) t.width (kept_bits t v)))))
work kind (PartAt l f t n) h = on_number h.stack (λ i s. on_part (atom_in (slice_get h.slots l)) (λ a. at_index i n (λ j. now h (ANumber (get_field a (f + j * t.width) t) ∷ s))))
work kind (SetPartAt l f t n) h = on_numbers h.stack (λ i v s. on_part (atom_in (slice_get h.slots l)) (λ a. at_index i n (λ j. put_slot h s l (with_part a (f + j * t.width) t.width (kept_bits t v)))))
work kind (Goto p) h = Lacks
work kind (GotoFalse p) h = Lacks
work kind Take h = Lacks
work kind (Enter f) h = Lacks
work kind GiveBack h = Lacks
work kind Leave h = Lacks

-- a call that waits: where it goes on, and what it had
pub record Frame : Type 0 where
  pub place : ℕ
  pub stack : List Datum
  pub slots : List Datum

-- a running machine
pub record State : Type 0 where
  pub place : ℕ
  pub held : Held
  pub below : List Frame
  pub turns : ℕ

-- what goes on once a turn is taken; failure 1 if none is left
abbrev pub on_turn : ℕ → (ℕ → Led State) → Led State
on_turn zero go = Fails 1
on_turn (suc t) go = go t

-- the machine after a plain instruction, at the next place
abbrev pub onward : State → Led Held → Led State
onward s (Goes h) = Goes (record s { held = h; place = s.place + 1 })
onward s (Fails n) = Fails n
onward s (Ends w) = Ends w
onward s Lacks = Lacks

-- what a jump does with the number on top, if there is one
abbrev pub on_test : List Datum → (ℤ → List Datum → Led State) → Led State
on_test [] go = Lacks
on_test (ANumber v ∷ s) go = go v s
on_test (AnAtom a ∷ s) go = Lacks

-- the slots of a function: the arguments, and 0 or Empty for the others
abbrev pub fresh : List Datum → List Operand → List Datum
fresh [] ks = map fill ks
fresh (x ∷ args) [] = []
fresh (x ∷ args) (k ∷ ks) = x ∷ fresh args ks

-- what a function begins with, its arguments being the topmost operands of its caller
abbrev pub callee_held : FunctionValue → Held → Held
callee_held g h = record h { stack = []; slots = fresh (reverse (take g.params h.stack)) g.slots }

-- how the caller waits: it goes on at this place, without the arguments
abbrev pub caller_frame : FunctionValue → ℕ → Held → Frame
caller_frame g place h = record { place = place; stack = drop g.params h.stack; slots = h.slots }

-- the state in which a called function begins, with t turns left
abbrev pub into : State → FunctionValue → ℕ → State
into s g t = record { place = g.first; held = callee_held g s.held; below = caller_frame g (s.place + 1) s.held ∷ s.below; turns = t }

-- a call takes a turn, then one of 16 levels
abbrev pub enter_with : State → FunctionValue → Led State
enter_with s g = on_turn s.turns (λ t. if nat_lt (length s.below) MOST_CALLS then Goes (into s g t) else Fails 2)

-- a call of a function, if there is one and its arguments are there
abbrev pub enter : State → Option FunctionValue → Led State
enter s None = Lacks
enter s (Some g) = if nat_le g.params (length s.held.stack) then enter_with s g else Lacks

-- the end of a function, with what it gives
abbrev pub back : State → List Datum → List Frame → Led State
back s given [] = Ends s.held.window
back s given (fr ∷ below) = Goes (record s {
  place = fr.place;
  held = record s.held { stack = given ++ fr.stack; slots = fr.slots };
  below = below;
})

-- the end of a function with the operand on top
abbrev pub back_one : State → List Datum → Led State
back_one s [] = Lacks
back_one s (x ∷ stack) = back s (x ∷ []) s.below

-- an instruction of this sort
abbrev pub go_by : CodeValue → Sort → State → Led State
go_by c (Goto p) s = Goes (record s { place = p })
go_by c (GotoFalse p) s = on_test s.held.stack (λ v st. Goes (record s { held = record s.held { stack = st }; place = if is_zero v then p else s.place + 1 }))
go_by c Take s = on_turn s.turns (λ t. Goes (record s { turns = t; place = s.place + 1 }))
go_by c (Enter f) s = enter s (slice_get c.functions f)
go_by c GiveBack s = back_one s s.held.stack
go_by c Leave s = back s [] s.below
go_by c so s = onward s (work c.kind so s.held)

-- one instruction, if there is one
abbrev pub step_on : CodeValue → State → Option Instr → Led State
step_on c s None = Lacks
step_on c s (Some i) = go_by c (sort i) s

-- the instruction at the place of the machine
abbrev pub step : CodeValue → State → Led State
step c s = step_on c s (slice_get c.instrs s.place)

-- what comes next, if the run goes on
abbrev pub and_then : Led State → (State → Led State) → Led State
and_then (Goes s) go = go s
and_then (Fails n) go = Fails n
and_then (Ends w) go = Ends w
and_then Lacks go = Lacks

-- at most n instructions
unfoldable pub iter : CodeValue → ℕ → State → Led State
iter c zero s = Goes s
iter c (suc n) s = and_then (step c s) (iter c n)

-- how many instructions were run, of at most n
abbrev pub one_more : (State → ℕ) → Led State → ℕ
one_more f (Goes s) = suc (f s)
one_more f (Fails n) = 1
one_more f (Ends w) = 1
one_more f Lacks = 1

unfoldable pub count : CodeValue → ℕ → State → ℕ
count c zero s = 0
count c (suc n) s = one_more (count c n) (step c s)

-- what the first function of an event begins with, if it has slots of these kinds
abbrev pub first_held : List Operand → WindowValue → ℕ → Held
first_held slots w seed = record { stack = []; slots = map fill slots; window = w; words = event_state seed 0 }

-- the first state of an event: at place 0, with 1,000 turns
abbrev pub start_with : WindowValue → ℕ → Option FunctionValue → State
start_with w seed None = record { place = 0; held = first_held [] w seed; below = []; turns = MOST_TURNS }
start_with w seed (Some g) = record { place = 0; held = first_held g.slots w seed; below = []; turns = MOST_TURNS }

-- the same for a code, whose first function begins
abbrev pub start : CodeValue → WindowValue → ℕ → State
start c w seed = start_with w seed (slice_get c.functions 0)

-- the window and the ending, None or a failure's number, of an event that began with this window
abbrev pub ending : WindowValue → Led State → Option (WindowValue × Option ℕ)
ending w (Ends w') = Some (w', None)
ending w (Fails n) = Some (without_centre w, Some n)
ending w (Goes s) = None
ending w Lacks = None

-- an event: its window and ending, and how many instructions were run, a failing one included
pub record Run : Type 0 where
  pub over : Option (WindowValue × Option ℕ)
  pub count : ℕ

-- the run of an event's code on a window, with the random words of a seed
unfoldable pub runs : CodeValue → WindowValue → ℕ → Run
runs c w seed = record {
  over = ending w (iter c ((MOST_TURNS + 1) * length c.instrs) (start c w seed));
  count = count c ((MOST_TURNS + 1) * length c.instrs) (start c w seed);
}
