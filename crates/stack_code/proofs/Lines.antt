-- The lines of a code's text, one by one.
use Rattle.std.proofs.Common.{ℕ, suc, ◌≡◌, ◌+◌, ◌<◌, List, ◌∷◌, ◌++◌, length, get_or, drop, refl, ◌∙◌, arith}
use Rattle.std.proofs.Math.Seq.{drop-cons}
use Rattle.stack_code.specs.Machine.{FunctionValue, CodeValue}
use Rattle.stack_code.specs.Valid.{end_with}
use Rattle.stack_code.specs.Text.{function_text, function_texts}

-- the texts from a function on are its text and those from the next one on
pub function_texts-step : (c : CodeValue) (k end : ℕ) (fs : List FunctionValue) (f : FunctionValue) → k < length fs → f ≡ get_or fs k f → end ≡ end_with (length c.instrs) (drop (k + 1) fs) → function_texts c k (drop k fs) ≡ function_text c k f end ++ function_texts c (k + 1) (drop (k + 1) fs)
function_texts-step c k end fs f lt e d =
    let next : suc k ≡ k + 1 = omega arith in
    let here : drop k fs ≡ f ∷ drop (k + 1) fs = drop-cons fs k f lt ∙ rw (next, ← e) refl in
    rw (here, d) refl
