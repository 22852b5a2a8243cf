-- What the calls of the machine do, beside the definition of the stack machine.
use Rattle.std.specs.Prelude.{◌≡◌, ℕ, ◌+◌, ◌*◌, ◌≤◌, ◌<◌, true, ℤ, List, [], ◌∷◌, length, Option, Some, None, slice_get}
use Rattle.bit_field.specs.Atom.{AtomValue}
use Rattle.window_sites.specs.Window.{WindowValue, without_centre}
use Rattle.sat_math.specs.declared.NumType.{NumType}
use Rattle.sat_math.specs.Numbers.{IsNumType}
use Rattle.event_machine.specs.Counting.{Counted}
use Rattle.event_machine.specs.Ticks.{Ticks}
use Rattle.datum.specs.declared.Datum.{Datum}
use Rattle.stack_code.specs.Machine.{Held, Led, Goes, Fails, Ends, Lacks, State, CodeValue, FunctionValue, iter, count, start}
use Rattle.stack_code.specs.Valid.{args_fit, valid}
use Rattle.event_machine.specs.declared.ending.Leads.{Leads}
use Rattle.event_machine.specs.declared.ending.Leads.TheVariants.{On, Fail, Done, Lack}
use Rattle.stack_code.specs.declared.instr.Instr.{Instr}
use Rattle.stack_code.specs.declared.instr.Instr.TheVariants.{ReturnVoid}
use Rattle.event_machine.specs.declared.ending.Ended.{Ended}
use Rattle.event_machine.specs.declared.ending.Ended.TheVariants.{Done as DoneEnd, Failed}
use Rattle.bit_field.specs.declared.TheConstants.{STATE_BITS}
use Rattle.stack_code.specs.declared.limits.TheConstants.{MOST_INSTRS, MOST_OPERANDS, MOST_SLOTS}
use Rattle.feast_base.specs.declared.limits.TheConstants.{MOST_TURNS}

-- The code's answer and the new values are those of the definition: it goes on, fails with the same number, or lacks an operand.
abbrev pub Works : Led Held → Held → Leads → Type 0
Works (Goes h) new On = h ≡ new
Works (Goes h) new (Fail n) = ⊥
Works (Goes h) new Done = ⊥
Works (Goes h) new Lack = ⊥
Works (Fails m) new On = ⊥
Works (Fails m) new (Fail n) = m ≡ n
Works (Fails m) new Done = ⊥
Works (Fails m) new Lack = ⊥
Works (Ends w) new l = ⊥
Works Lacks new On = ⊥
Works Lacks new (Fail n) = ⊥
Works Lacks new Done = ⊥
Works Lacks new Lack = Unit {0}

-- the same of a whole machine, which may also come to its end
abbrev pub StepsTo : Led State → State → Leads → Type 0
StepsTo (Goes s) new On = s ≡ new
StepsTo (Goes s) new (Fail n) = ⊥
StepsTo (Goes s) new Done = ⊥
StepsTo (Goes s) new Lack = ⊥
StepsTo (Fails m) new On = ⊥
StepsTo (Fails m) new (Fail n) = m ≡ n
StepsTo (Fails m) new Done = ⊥
StepsTo (Fails m) new Lack = ⊥
StepsTo (Ends w) new On = ⊥
StepsTo (Ends w) new (Fail n) = ⊥
StepsTo (Ends w) new Done = w ≡ new.held.window
StepsTo (Ends w) new Lack = ⊥
StepsTo Lacks new On = ⊥
StepsTo Lacks new (Fail n) = ⊥
StepsTo Lacks new Done = ⊥
StepsTo Lacks new Lack = Unit {0}

-- what goes on with the operand that the code popped, if it popped one
abbrev pub with_any : Option Datum → List Datum → (Datum → List Datum → Led Held) → Led Held
with_any None s go = Lacks
with_any (Some x) s go = go x s

abbrev pub with_one : Option ℤ → List Datum → (ℤ → List Datum → Led Held) → Led Held
with_one None s go = Lacks
with_one (Some v) s go = go v s

abbrev pub with_lead : Option ℤ → List Datum → (ℤ → List Datum → Led State) → Led State
with_lead None s go = Lacks
with_lead (Some v) s go = go v s

abbrev pub with_two : Option (ℤ × ℤ) → List Datum → (ℤ → ℤ → List Datum → Led Held) → Led Held
with_two None s go = Lacks
with_two (Some p) s go = go p.0 p.1 s

abbrev pub with_atom : Option AtomValue → List Datum → (AtomValue → List Datum → Led Held) → Led Held
with_atom None s go = Lacks
with_atom (Some a) s go = go a s

-- what goes on with the site or the index that the code found, or this failure
abbrev pub with_place : ℕ → Option ℕ → (ℕ → Led Held) → Led Held
with_place m None go = Fails m
with_place m (Some n) go = go n

-- n fields of a type one after another, from bit f on, which lie in an atom's state
pub record FieldFits (f : ℕ) (t : NumType) (n : ℕ) : Type 0 where
  pub type : IsNumType t
  pub some : 1 ≤ n
  pub within : f + n * t.width ≤ STATE_BITS

-- what the code promises of the place at which a machine stands
pub record Ready (c : CodeValue) (s : State) : Type 0 where
  pub room : length s.held.stack ≤ MOST_OPERANDS
  pub args : (i : Instr) → slice_get c.instrs s.place ≡ Some i → args_fit i ≡ true
  pub functions : (f : ℕ) (g : FunctionValue) → slice_get c.functions f ≡ Some g → (g.params ≤ length g.slots) × (length g.slots ≤ MOST_SLOTS)
  pub within : s.place < length c.instrs
  pub place : s.place < MOST_INSTRS

-- the datum in a list, if there is one
abbrev pub as_list : Option Datum → List Datum
as_list None = []
as_list (Some x) = x ∷ []

-- the functions of a code have no more parameters than slots, and few slots
abbrev pub FunctionsFit : CodeValue → Type 0
FunctionsFit c = (f : ℕ) (g : FunctionValue) → slice_get c.functions f ≡ Some g → (g.params ≤ length g.slots) × (length g.slots ≤ MOST_SLOTS)

-- a machine, and the steps that were counted so far
pub record Counting (L : Type 0) : Type 0 where
  pub machine : State
  pub steps : Counted L

abbrev pub counting : {L : Type 0} → State → Counted L → Counting L
counting s n = record { machine = s; steps = n }

-- what a run leads to is this ending: the end, with the window of this machine, or a failure
abbrev pub EndsSo : Led State → State → Ended → Type 0
EndsSo l new DoneEnd = l ≡ Ends new.held.window
EndsSo l new (Failed k) = l ≡ Fails k

-- a run of the code is over: it ended so, and each of its steps was counted, and noted once
abbrev pub Ran : {L : Type 0} → (L → L → Type 0) → CodeValue → Counting L → Counting L → Ended → Type 0
Ran noted c old new r = EndsSo (iter c ((MOST_TURNS + 1) * length c.instrs) old.machine) new.machine r × Ticks noted (count c ((MOST_TURNS + 1) * length c.instrs) old.machine) old.steps new.steps

-- a machine at the start of valid code
pub record Started (c : CodeValue) (s : State) : Type 0 where
  pub valid : valid c ≡ true
  pub window : WindowValue
  pub seed : ℕ
  pub start : s ≡ start c window seed

-- the window after an event that began with this one
abbrev pub window_after : WindowValue → State → Ended → WindowValue
window_after w s DoneEnd = s.held.window
window_after w s (Failed k) = without_centre w

-- code that ends with its first instruction
abbrev pub Idles : CodeValue → Type 0
Idles c = slice_get c.instrs 0 ≡ Some ReturnVoid
