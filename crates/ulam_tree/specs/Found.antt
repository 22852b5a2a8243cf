-- The steps of a stage, each of which finds something or ends the stage by a fault. F is the type of the stage's faults.
use Rattle.std.specs.Prelude.{List, ◌++◌, Option, Some, None, Bool, true, false, Result, Ok, Err}

-- what a step finds, or a fault
abbrev pub Found : Type 0 → Type 0 → Type 0
Found F A = Result A F

-- one step and then another
infixl 10 ◌>>=◌
abbrev pub ◌>>=◌ : {F A B : Type 0} → Found F A → (A → Found F B) → Found F B
(Ok x) >>= f = f x
(Err e) >>= f = Err e

-- the value of an option, or else this fault
abbrev pub value_or_fault : {F A : Type 0} → Option A → F → Found F A
value_or_fault (Some x) f = Ok x
value_or_fault None f = Err f

-- a rule that holds, or else this fault
abbrev pub must : {F : Type 0} → Bool → F → Found F (Unit {0})
must true f = Ok tt
must false f = Err f

abbrev pub fault_of : {F A : Type 0} → Found F A → Option F
fault_of (Ok x) = None
fault_of (Err f) = Some f

-- what a list begins with, before more that is found
abbrev pub with_front : {F A : Type 0} → List A → Found F (List A) → Found F (List A)
with_front {A = A} front value_or_fault = value_or_fault >>= λ (more : List A). Ok (front ++ more)
