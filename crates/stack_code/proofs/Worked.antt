-- Worked values: small codes, whether they are valid, and what they do.
use Rattle.std.proofs.Common.{◌≡◌, ℕ, List, [], ◌∷◌, ◌++◌, refl, true, false}
use Rattle.std.specs.Prelude.{pos, replicate, codes, ◌*◌, length}
use Rattle.bit_field.specs.Atom.{new_atom}
use Rattle.window_sites.specs.Window.{WindowValue}
use Rattle.sat_math.specs.declared.Kind.TheVariants.{Int, Unsigned}
use Rattle.stack_code.specs.Machine.{CodeValue, FunctionValue, Fails, start, count, iter}
use Rattle.stack_code.specs.Valid.{valid, pass, pass_all, back_of}
use Rattle.stack_code.specs.declared.instr.Operand.{Operand}
use Rattle.stack_code.specs.declared.instr.Operand.TheVariants.{Number}
use Rattle.stack_code.specs.declared.instr.Answer.TheVariants.{Nothing, Number as NumberBack}
use Rattle.stack_code.specs.declared.instr.Instr.{Instr}
use Rattle.stack_code.specs.declared.instr.Instr.TheVariants.{PushNum, Pop, Swap, Jump, JumpFalse, Turn, ReturnVoid, Call, Fit, StoreLocal, LoadLocal, Return, DivI, LoadSite, LoadFieldAt}

main_with : List Operand → FunctionValue
main_with slots = record { name = codes "behave"; base = 0; first = 0; params = 0; slots = slots; answer = Nothing }

one_function : List Instr → CodeValue
one_function is = record { kind = 1; functions = main_with [] ∷ []; instrs = is }

-- a window of 41 live sites with atoms of type 1
unfoldable pub full : WindowValue
full = record { atoms = replicate 41 (new_atom 1); live = replicate 41 true }

walker : CodeValue
walker = one_function (PushNum (pos 0) ∷ PushNum (pos 4) ∷ Swap ∷ ReturnVoid ∷ [])

walker_valid : valid walker ≡ true
unfolding walker one_function main_with valid pass pass_all back_of
walker_valid = refl

turner : CodeValue
turner = one_function (Turn ∷ Jump 0 ∷ [])

turner_valid : valid turner ≡ true
unfolding turner one_function main_with valid pass pass_all back_of
turner_valid = refl

-- each turn costs two steps, and the one that finds none left is counted
turner_steps : count turner 2002 (start turner full 0) ≡ 2001
unfolding turner one_function main_with full count
turner_steps = refl

turner_fails : iter turner 2002 (start turner full 0) ≡ Fails 1
unfolding turner one_function main_with full iter
turner_fails = refl

want_of_operands : valid (one_function (Swap ∷ ReturnVoid ∷ [])) ≡ false
unfolding one_function main_with valid pass pass_all back_of
want_of_operands = refl

own_place : valid (one_function (Jump 0 ∷ [])) ≡ false
unfolding one_function main_with valid pass pass_all back_of
own_place = refl

falls_through : valid (one_function (PushNum (pos 0) ∷ [])) ≡ false
unfolding one_function main_with valid pass pass_all back_of
falls_through = refl

-- what isn't reached is checked from no operands on
dead : valid (one_function (ReturnVoid ∷ PushNum (pos 0) ∷ Pop ∷ ReturnVoid ∷ [])) ≡ true
unfolding one_function main_with valid pass pass_all back_of
dead = refl

deep : ℕ → List Instr
deep n = replicate n (PushNum (pos 0)) ++ (replicate n Pop ++ ReturnVoid ∷ [])

operands_512 : valid (one_function (deep 512)) ≡ true
unfolding one_function main_with deep valid pass pass_all back_of
operands_512 = refl

operands_513 : valid (one_function (deep 513)) ≡ false
unfolding one_function main_with deep valid pass pass_all back_of
operands_513 = refl

-- x = seven(); while (x) { x = 6 / 0; }
quotients : CodeValue
quotients = record {
  kind = 1;
  functions = main_with (Number ∷ []) ∷ record { name = codes "seven"; base = 0; first = 13; params = 0; slots = []; answer = NumberBack } ∷ [];
  instrs = Call 1 ∷ Fit Int 32 ∷ StoreLocal 0 ∷ LoadLocal 0 ∷ JumpFalse 12 ∷ PushNum (pos 6) ∷ PushNum (pos 0) ∷ DivI ∷ Fit Int 32 ∷ StoreLocal 0 ∷ Turn ∷ Jump 3 ∷ ReturnVoid ∷ PushNum (pos 7) ∷ Return ∷ [];
}

quotients_valid : valid quotients ≡ true
unfolding quotients main_with valid pass pass_all back_of
quotients_valid = refl

quotients_fail : iter quotients (1001 * length quotients.instrs) (start quotients full 0) ≡ Fails 3
unfolding quotients main_with full iter
quotients_fail = refl

-- the index that is the length is not that of an element
past_the_array : iter (one_function (PushNum (pos 4) ∷ LoadFieldAt 0 3 Unsigned 4 ∷ Pop ∷ ReturnVoid ∷ [])) 4 (start (one_function (PushNum (pos 4) ∷ LoadFieldAt 0 3 Unsigned 4 ∷ Pop ∷ ReturnVoid ∷ [])) full 0) ≡ Fails 7
unfolding one_function main_with full iter
past_the_array = refl

site_41 : iter (one_function (PushNum (pos 41) ∷ LoadSite ∷ Pop ∷ ReturnVoid ∷ [])) 4 (start (one_function (PushNum (pos 41) ∷ LoadSite ∷ Pop ∷ ReturnVoid ∷ [])) full 0) ≡ Fails 4
unfolding one_function main_with full iter
site_41 = refl
