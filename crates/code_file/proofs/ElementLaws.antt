-- Laws of functions and elements.
use Rattle.std.proofs.Common.{◌≡◌, ℕ, zero, suc, ◌+◌, ◌-◌, ◌^◌, ◌≤◌, true, List, [], ◌∷◌, ◌++◌, length, Ok, refl, sym, ap, subst, ◌∙◌, length-append, arith}
use Rattle.std.specs.List.{AllByRecursion, flat_map}
use Rattle.feast_base.specs.TypeNames.{is_type_name}
use Rattle.stack_code.specs.Machine.{FunctionValue}
use Rattle.stack_code.specs.declared.instr.Answer.{Answer}
use Rattle.stack_code.specs.declared.instr.Answer.TheVariants.{Nothing, Number as NumberBack, Atom as AtomBack}
use Rattle.stack_code.specs.declared.instr.Instr.{Instr}
use Rattle.stack_code.specs.declared.instr.Operand.{Operand}
use Rattle.stack_code.specs.declared.instr.Operand.TheVariants.{Number, Atom}
use Rattle.code_file.specs.Form.{AreElements, CodesValue, ElementValue, IsElement, IsFunction, answer_code, element_bytes, function_bytes, operand_code, slot_bytes}
use Rattle.code_file.specs.Instrs.{IsInstr, instr_bytes}
use Rattle.code_file.specs.Numbers.{be, with_length, name_bytes}
use Rattle.code_file.specs.Reading.{◌>>=◌, answer_at, answer_of, element_at, elements_at, elements_from, function_at, functions_at, instr_at, instrs_at, name_at, number_at, operand_of, slot_at, slots_at}
use Rattle.code_file.specs.Words.{is_name}
use Rattle.code_file.specs.declared.names.NameForm.TheVariants.{OfElement, OfFunction}
use Rattle.code_file.proofs.Gathers.{AreGathered, counted_laws, gather_laws, made_laws}
use Rattle.code_file.proofs.InstrLaws.{instr_laws}
use Rattle.code_file.proofs.Laws.{Laws, bind_laws, same_laws}
use Rattle.code_file.proofs.NameLaws.{name_laws}
use Rattle.code_file.proofs.NumberLaws.{number_whole}

operand_back : (n : ℕ) → n ≤ 1 → operand_code (operand_of n) ≡ n
operand_back zero h = refl
operand_back (suc zero) h = refl
operand_back (suc (suc n)) h = absurd (omega (arith, h))

operand_again : (k : Operand) → (operand_code k ≤ 1) × (k ≡ operand_of (operand_code k))
operand_again Number = (omega arith, refl)
operand_again Atom = (omega arith, refl)

answer_back : (n : ℕ) → n ≤ 2 → answer_code (answer_of n) ≡ n
answer_back zero h = refl
answer_back (suc zero) h = refl
answer_back (suc (suc zero)) h = refl
answer_back (suc (suc (suc n))) h = absurd (omega (arith, h))

answer_again : (k : Answer) → (answer_code k ≤ 2) × (k ≡ answer_of (answer_code k))
answer_again Nothing = (omega arith, refl)
answer_again NumberBack = (omega arith, refl)
answer_again AtomBack = (omega arith, refl)

abbrev AnySlot : Operand → Type 0
AnySlot k = Unit {0}

abbrev AnyAnswer : Answer → Type 0
AnyAnswer k = Unit {0}

abbrev of_answer : Answer → List ℕ
of_answer k = be 1 (answer_code k)

slot_laws : Laws slot_at slot_bytes AnySlot
unfolding slot_at
slot_laws = made_laws (number_at 1 0 1) operand_of (be 1) (λ n. (0 ≤ n) × (n ≤ 1)) slot_bytes AnySlot (number_whole 1 0 1 (omega arith) (omega arith))
    (λ n f. (tt, ap (be 1) (operand_back n f.1))) (λ k f. (operand_code k, (omega arith, (operand_again k).0), (operand_again k).1))

answer_laws : Laws answer_at of_answer AnyAnswer
unfolding answer_at
answer_laws = made_laws (number_at 1 0 2) answer_of (be 1) (λ n. (0 ≤ n) × (n ≤ 2)) of_answer AnyAnswer (number_whole 1 0 2 (omega arith) (omega arith))
    (λ n f. (tt, ap (be 1) (answer_back n f.1))) (λ k f. (answer_code k, (omega arith, (answer_again k).0), (answer_again k).1))

all_slots : (xs : List Operand) → AllByRecursion AnySlot xs
all_slots [] = tt
all_slots (x ∷ xs) = (tt, all_slots xs)

abbrev FewSlots : List Operand → Type 0
FewSlots xs = length xs ≤ 72

slots_laws : Laws slots_at (with_length 1 slot_bytes) FewSlots
unfolding slots_at
slots_laws = same_laws slots_at (with_length 1 slot_bytes) (with_length 1 slot_bytes) (λ xs. ((0 ≤ length xs) × (length xs ≤ 72)) × AllByRecursion AnySlot xs) FewSlots
    (counted_laws 1 0 72 slot_at slot_bytes AnySlot (number_whole 1 0 72 (omega arith) (omega arith)) slot_laws)
    (λ xs f. f.0.1) (λ xs f. ((omega arith, f), all_slots xs)) (λ xs f. refl)

abbrev UpTo : ℕ → ℕ → Type 0
UpTo most n = (0 ≤ n) × (n ≤ most)

-- the parts of a function behind some that are known
abbrev answer_tail : FunctionValue → List ℕ
answer_tail c = of_answer c.answer ++ with_length 1 slot_bytes c.slots

abbrev params_tail : FunctionValue → List ℕ
params_tail c = be 1 c.params ++ answer_tail c

abbrev first_tail : FunctionValue → List ℕ
first_tail c = be 4 c.first ++ params_tail c

abbrev base_tail : FunctionValue → List ℕ
base_tail c = be 1 c.base ++ first_tail c

record Slots (n : List ℕ) (b f p : ℕ) (a : Answer) (c : FunctionValue) : Type 0 where
  pub name : c.name ≡ n
  pub base : c.base ≡ b
  pub first : c.first ≡ f
  pub params : c.params ≡ p
  pub answer : c.answer ≡ a
  pub slots : FewSlots c.slots

record Answered (n : List ℕ) (b f p : ℕ) (c : FunctionValue) : Type 0 where
  pub name : c.name ≡ n
  pub base : c.base ≡ b
  pub first : c.first ≡ f
  pub params : c.params ≡ p
  pub slots : FewSlots c.slots

record Params (n : List ℕ) (b f : ℕ) (c : FunctionValue) : Type 0 where
  pub name : c.name ≡ n
  pub base : c.base ≡ b
  pub first : c.first ≡ f
  pub params : UpTo 8 c.params
  pub slots : FewSlots c.slots

record First (n : List ℕ) (b : ℕ) (c : FunctionValue) : Type 0 where
  pub name : c.name ≡ n
  pub base : c.base ≡ b
  pub first : UpTo (2 ^ 32 - 1) c.first
  pub params : UpTo 8 c.params
  pub slots : FewSlots c.slots

record Base (n : List ℕ) (c : FunctionValue) : Type 0 where
  pub name : c.name ≡ n
  pub base : UpTo 71 c.base
  pub first : UpTo (2 ^ 32 - 1) c.first
  pub params : UpTo 8 c.params
  pub slots : FewSlots c.slots

abbrev made_of : List ℕ → ℕ → ℕ → ℕ → Answer → List Operand → FunctionValue
made_of n b f p a s = record { name = n; base = b; first = f; params = p; slots = s; answer = a }

slots_part : (n : List ℕ) (b f p : ℕ) (a : Answer) → Laws (λ bytes. slots_at bytes >>= λ s. Ok (made_of n b f p a s.0, s.1)) (λ c. with_length 1 slot_bytes c.slots) (Slots n b f p a)
slots_part n b f p a = made_laws slots_at (made_of n b f p a) (with_length 1 slot_bytes) FewSlots (λ (c : FunctionValue). with_length 1 slot_bytes c.slots) (Slots n b f p a) slots_laws
    (λ s h. (record { name = refl; base = refl; first = refl; params = refl; answer = refl; slots = h }, refl))
    (λ c h. (c.slots, h.slots, λ i. made_of (h.name i) (h.base i) (h.first i) (h.params i) (h.answer i) c.slots))

answer_part : (n : List ℕ) (b f p : ℕ) → Laws (λ bytes. answer_at bytes >>= λ a. slots_at a.1 >>= λ s. Ok (made_of n b f p a.0 s.0, s.1)) answer_tail (Answered n b f p)
answer_part n b f p = bind_laws Answer FunctionValue answer_at (λ a bytes. slots_at bytes >>= λ s. Ok (made_of n b f p a s.0, s.1)) of_answer AnyAnswer (λ a c. with_length 1 slot_bytes c.slots) (Slots n b f p) answer_tail (Answered n b f p)
    (record {
      join = λ a c f1 h. (record { name = h.name; base = h.base; first = h.first; params = h.params; slots = h.slots }, ap (λ x. of_answer x ++ with_length 1 slot_bytes c.slots) h.answer);
      split = λ c h. (c.answer, tt, record { name = h.name; base = h.base; first = h.first; params = h.params; answer = refl; slots = h.slots });
    }) answer_laws (λ a h. slots_part n b f p a)

params_part : (n : List ℕ) (b f : ℕ) → Laws (λ bytes. number_at 1 0 8 bytes >>= λ p. answer_at p.1 >>= λ a. slots_at a.1 >>= λ s. Ok (made_of n b f p.0 a.0 s.0, s.1)) params_tail (Params n b f)
params_part n b f = bind_laws ℕ FunctionValue (number_at 1 0 8) (λ p bytes. answer_at bytes >>= λ a. slots_at a.1 >>= λ s. Ok (made_of n b f p a.0 s.0, s.1)) (be 1) (UpTo 8) (λ p. answer_tail) (Answered n b f) params_tail (Params n b f)
    (record {
      join = λ p c f1 h. (record { name = h.name; base = h.base; first = h.first; params = subst (UpTo 8) (sym h.params) f1; slots = h.slots }, ap (λ x. be 1 x ++ answer_tail c) h.params);
      split = λ c h. (c.params, h.params, record { name = h.name; base = h.base; first = h.first; params = refl; slots = h.slots });
    }) (number_whole 1 0 8 (omega arith) (omega arith)) (λ p h. answer_part n b f p)

first_part : (n : List ℕ) (b : ℕ) → Laws (λ bytes. number_at 4 0 (2 ^ 32 - 1) bytes >>= λ f. number_at 1 0 8 f.1 >>= λ p. answer_at p.1 >>= λ a. slots_at a.1 >>= λ s. Ok (made_of n b f.0 p.0 a.0 s.0, s.1)) first_tail (First n b)
first_part n b = bind_laws ℕ FunctionValue (number_at 4 0 (2 ^ 32 - 1)) (λ f bytes. number_at 1 0 8 bytes >>= λ p. answer_at p.1 >>= λ a. slots_at a.1 >>= λ s. Ok (made_of n b f p.0 a.0 s.0, s.1)) (be 4) (UpTo (2 ^ 32 - 1)) (λ f. params_tail) (Params n b) first_tail (First n b)
    (record {
      join = λ f c f1 h. (record { name = h.name; base = h.base; first = subst (UpTo (2 ^ 32 - 1)) (sym h.first) f1; params = h.params; slots = h.slots }, ap (λ x. be 4 x ++ params_tail c) h.first);
      split = λ c h. (c.first, h.first, record { name = h.name; base = h.base; first = refl; params = h.params; slots = h.slots });
    }) (number_whole 4 0 (2 ^ 32 - 1) (omega arith) (omega arith)) (λ f h. params_part n b f)

base_part : (n : List ℕ) → Laws (λ bytes. number_at 1 0 71 bytes >>= λ b. number_at 4 0 (2 ^ 32 - 1) b.1 >>= λ f. number_at 1 0 8 f.1 >>= λ p. answer_at p.1 >>= λ a. slots_at a.1 >>= λ s. Ok (made_of n b.0 f.0 p.0 a.0 s.0, s.1)) base_tail (Base n)
base_part n = bind_laws ℕ FunctionValue (number_at 1 0 71) (λ b bytes. number_at 4 0 (2 ^ 32 - 1) bytes >>= λ f. number_at 1 0 8 f.1 >>= λ p. answer_at p.1 >>= λ a. slots_at a.1 >>= λ s. Ok (made_of n b f.0 p.0 a.0 s.0, s.1)) (be 1) (UpTo 71) (λ b. first_tail) (First n) base_tail (Base n)
    (record {
      join = λ b c f1 h. (record { name = h.name; base = subst (UpTo 71) (sym h.base) f1; first = h.first; params = h.params; slots = h.slots }, ap (λ x. be 1 x ++ first_tail c) h.base);
      split = λ c h. (c.base, h.base, record { name = h.name; base = refl; first = h.first; params = h.params; slots = h.slots });
    }) (number_whole 1 0 71 (omega arith) (omega arith)) (λ b h. first_part n b)

function_laws : Laws function_at function_bytes IsFunction
unfolding function_at
function_laws = bind_laws (List ℕ) FunctionValue (name_at OfFunction) (λ n bytes. number_at 1 0 71 bytes >>= λ b. number_at 4 0 (2 ^ 32 - 1) b.1 >>= λ f. number_at 1 0 8 f.1 >>= λ p. answer_at p.1 >>= λ a. slots_at a.1 >>= λ s. Ok (made_of n b.0 f.0 p.0 a.0 s.0, s.1)) name_bytes (λ name. is_name name ≡ true) (λ n. base_tail) Base function_bytes IsFunction
    (record {
      join = λ n c f1 h. (record { name = ap is_name h.name ∙ f1; base = h.base.1; first = omega (arith, h.first.1); params = h.params.1; slots = h.slots }, ap (λ x. name_bytes x ++ base_tail c) h.name);
      split = λ c h. (c.name, h.name, record { name = refl; base = (omega arith, h.base); first = (omega arith, omega (arith, h.first)); params = (omega arith, h.params); slots = h.slots });
    }) (name_laws OfFunction) (λ n h. base_part n)

-- Elements

abbrev Many : {A : Type 0} → (A → Type 0) → List A → Type 0
Many F xs = ((1 ≤ length xs) × (length xs ≤ 65536)) × AllByRecursion F xs

functions_laws : Laws functions_at (with_length 4 function_bytes) (Many IsFunction)
unfolding functions_at
functions_laws = counted_laws 4 1 65536 function_at function_bytes IsFunction (number_whole 4 1 65536 (omega arith) (omega arith)) function_laws

instrs_laws : (most : ℕ) → most ≤ 65535 → Laws (instrs_at most) (with_length 4 instr_bytes) (Many (IsInstr most))
unfolding instrs_at
instrs_laws most low = counted_laws 4 1 65536 (instr_at most) instr_bytes (IsInstr most) (number_whole 4 1 65536 (omega arith) (omega arith)) (instr_laws most low)

abbrev element_of : List ℕ → ℕ → List FunctionValue → List Instr → ElementValue
element_of n k fs is = record { name = n; code = record { kind = k; functions = fs; instrs = is } }

abbrev functions_tail : ElementValue → List ℕ
functions_tail e = with_length 4 function_bytes e.code.functions ++ with_length 4 instr_bytes e.code.instrs

record HasInstrs (most kind : ℕ) (n : List ℕ) (fs : List FunctionValue) (e : ElementValue) : Type 0 where
  pub name : e.name ≡ n
  pub kind_is : e.code.kind ≡ kind
  pub functions : e.code.functions ≡ fs
  pub instrs : Many (IsInstr most) e.code.instrs

record HasFunctions (most kind : ℕ) (n : List ℕ) (e : ElementValue) : Type 0 where
  pub name : e.name ≡ n
  pub kind_is : e.code.kind ≡ kind
  pub functions : Many IsFunction e.code.functions
  pub instrs : Many (IsInstr most) e.code.instrs

pub element_laws : (most kind : ℕ) → most ≤ 65535 → Laws (element_at most kind) element_bytes (IsElement most kind)
unfolding element_at
element_laws most kind low =
    bind_laws (List ℕ) ElementValue (name_at OfElement) (λ n bytes. functions_at bytes >>= λ fs. instrs_at most fs.1 >>= λ is. Ok (element_of n kind fs.0 is.0, is.1)) name_bytes (λ name. is_type_name name ≡ true) (λ n. functions_tail) (HasFunctions most kind) element_bytes (IsElement most kind)
    (record {
      join = λ n e f1 h. (record { name = ap is_type_name h.name ∙ f1; kind_is = h.kind_is; some_functions = h.functions.0.0; few_functions = h.functions.0.1; functions = h.functions.1; some_instrs = h.instrs.0.0; few_instrs = h.instrs.0.1; instrs = h.instrs.1 }, ap (λ x. name_bytes x ++ functions_tail e) h.name);
      split = λ e h. (e.name, h.name, record { name = refl; kind_is = h.kind_is; functions = ((h.some_functions, h.few_functions), h.functions); instrs = ((h.some_instrs, h.few_instrs), h.instrs) });
    }) (name_laws OfElement) (λ n h.
    bind_laws (List FunctionValue) ElementValue functions_at (λ fs bytes. instrs_at most bytes >>= λ is. Ok (element_of n kind fs is.0, is.1)) (with_length 4 function_bytes) (Many IsFunction) (λ fs e. with_length 4 instr_bytes e.code.instrs) (HasInstrs most kind n) functions_tail (HasFunctions most kind n)
    (record {
      join = λ fs e f1 h. (record { name = h.name; kind_is = h.kind_is; functions = subst (Many IsFunction) (sym h.functions) f1; instrs = h.instrs }, ap (λ x. with_length 4 function_bytes x ++ with_length 4 instr_bytes e.code.instrs) h.functions);
      split = λ e h. (e.code.functions, h.functions, record { name = h.name; kind_is = h.kind_is; functions = refl; instrs = h.instrs });
    }) functions_laws (λ fs h.
    made_laws (instrs_at most) (element_of n kind fs) (with_length 4 instr_bytes) (Many (IsInstr most)) (λ (e : ElementValue). with_length 4 instr_bytes e.code.instrs) (HasInstrs most kind n fs) (instrs_laws most low)
    (λ is g. (record { name = refl; kind_is = refl; functions = refl; instrs = g }, refl))
    (λ e g. (e.code.instrs, g.instrs, λ i. element_of (g.name i) (g.kind_is i) (g.functions i) e.code.instrs))))

-- each element has the type number behind those before it
abbrev InTurn : ℕ → CodesValue → ℕ → ElementValue → Type 0
InTurn most done left e = IsElement most (length done + 1) e

to_turn : (most n : ℕ) (done es : CodesValue) → AreGathered (InTurn most) n done es → (length es ≡ n) × AreElements most (length done + 1) es
to_turn most zero done [] h = (refl, tt)
to_turn most zero done (e ∷ es) h = absurd h
to_turn most (suc n) done [] h = absurd h
to_turn most (suc n) done (e ∷ es) h =
    let r = to_turn most n (done ++ e ∷ []) es h.1 in
    (ap suc r.0, (h.0, subst (λ k. AreElements most (k + 1) es) (length-append done (e ∷ [])) r.1))

of_turn : (most n : ℕ) (done es : CodesValue) → (length es ≡ n) × AreElements most (length done + 1) es → AreGathered (InTurn most) n done es
of_turn most zero done [] h = tt
of_turn most zero done (e ∷ es) h = absurd (omega (arith, h.0))
of_turn most (suc n) done [] h = absurd (omega (arith, h.0))
of_turn most (suc n) done (e ∷ es) h = (h.1.0, of_turn most n (done ++ e ∷ []) es (omega (arith, h.0), subst (λ k. AreElements most (k + 1) es) (sym (length-append done (e ∷ []))) h.1.1))

abbrev pub AreSaid : CodesValue → Type 0
AreSaid es = (length es ≤ 256) × AreElements (length es) 1 es

turns_laws : (n : ℕ) → n ≤ 256 → Laws (elements_from n n []) (flat_map element_bytes) (λ es. (length es ≡ n) × AreElements n 1 es)
turns_laws n few = same_laws (elements_from n n []) (flat_map element_bytes) (flat_map element_bytes) (AreGathered (InTurn n) n []) (λ es. (length es ≡ n) × AreElements n 1 es)
    (gather_laws ElementValue (λ done left. element_at n (length done + 1)) element_bytes (InTurn n) (λ done left. Unit {0}) (λ done k can. element_laws n (length done + 1) (omega (arith, few))) (λ done k e can f. tt) n tt)
    (to_turn n n []) (of_turn n n []) (λ es f. refl)

pub elements_laws : Laws elements_at (with_length 2 element_bytes) AreSaid
unfolding elements_at
elements_laws =
    bind_laws ℕ CodesValue (number_at 2 0 256) (λ n. elements_from n n []) (be 2) (UpTo 256) (λ n. flat_map element_bytes) (λ n es. (length es ≡ n) × AreElements n 1 es) (with_length 2 element_bytes) AreSaid
    (record {
      join = λ n es f1 h. ((omega (arith, f1.1, h.0), subst (λ k. AreElements k 1 es) (sym h.0) h.1), ap (λ k. be 2 k ++ flat_map element_bytes es) h.0);
      split = λ es h. (length es, (omega arith, h.0), (refl, h.1));
    }) (number_whole 2 0 256 (omega arith) (omega arith)) (λ n h. turns_laws n h.1)
