-- The code of the two functions, that they are ready and short, and what an event of them leaves.
use Rattle.std.proofs.Common.{◌≡◌, ℕ, zero, suc, [], ◌∷◌, refl, arith}
use Rattle.std.specs.Prelude.{pos, codes as letters, Some, None}
use Rattle.stack_code.proofs.Worked.{full}
use Rattle.stack_code.specs.declared.instr.Operand.TheVariants.{Number}
use Rattle.stack_code.specs.declared.instr.Answer.TheVariants.{Nothing, Number as NumberBack}
use Rattle.stack_code.specs.declared.instr.Instr.TheVariants.{PushNum, LoadLocal, StoreLocal, SubI, Jump, JumpFalse, Turn, Call, Return, ReturnVoid}
use Rattle.code_gen.specs.Drafts.{reach, keys, code_of}
use Rattle.code_gen.specs.Limits.{IsShort}
use Rattle.code_gen.specs.Laws.{IsGood, IsReady}
use Rattle.code_gen.specs.Runs.{asks_at, event, event_over}
use Rattle.cases_compile.specs.Two.{key, two}

two_code : code_of two 1 (key 0) ≡ record {
  kind = 1;
  functions = record { name = letters "behave"; base = 0; first = 0; params = 0; slots = Number ∷ []; answer = Nothing } ∷ record { name = letters "less"; base = 0; first = 10; params = 1; slots = Number ∷ []; answer = NumberBack } ∷ [];
  instrs = PushNum (pos 3) ∷ StoreLocal 0 ∷ LoadLocal 0 ∷ JumpFalse 9 ∷ LoadLocal 0 ∷ Call 1 ∷ StoreLocal 0 ∷ Turn ∷ Jump 2 ∷ ReturnVoid ∷ LoadLocal 0 ∷ PushNum (pos 1) ∷ SubI ∷ Return ∷ PushNum (pos 0) ∷ Return ∷ [];
}
unfolding code_of keys reach
two_code = refl

good_at : (k c b : ℕ) → IsGood two (record { class = c; function = k; base = b })
good_at zero c b = record { fits = (((refl, refl), (refl, refl)), (tt, (refl, refl), refl, (((refl, refl), (refl, refl)), (refl, refl)), refl, tt, refl)); stops = refl; slots = omega arith }
good_at (suc k) c b = record { fits = ((((refl, refl), (refl, refl)), (refl, refl)), refl); stops = refl; slots = omega arith }

pub two_ready : IsReady two (key 0)
two_ready = record { good = λ f room. good_at f.function f.class f.base; room = refl; no_params = refl; no_answer = refl }

two_short : IsShort two (key 0)
unfolding keys reach
two_short = record { few = omega arith; low = refl }

-- it ends, and leaves the window as it was
two_event : event_over full (event two 1 (key 0) full 5) ≡ Some (full, None)
unfolding full asks_at
two_event = refl
