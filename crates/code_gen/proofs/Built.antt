-- The verifier lets the code of an element through.
use Rattle.std.proofs.Common.{◌≡◌, ℕ, Option, Some, None, Result, Ok, Err, ap, ◌∙◌, Bool, true, IfOk}
use Rattle.std.specs.Prelude.{if◌then◌else◌}
use Rattle.feast_base.specs.declared.memory.NoMemory.{NoMemory}
use Rattle.stack_code.specs.Machine.{CodeValue}
use Rattle.stack_code.specs.Valid.{valid}
use Rattle.code_gen.specs.Pieces.{Key}
use Rattle.code_gen.specs.Drafts.{Drafts, code_of}
use Rattle.code_gen.specs.Limits.{IsShort}
use Rattle.code_gen.specs.Laws.{IsReady}
use Rattle.code_gen.specs.Gathers.{Builds}
use Rattle.code_gen.proofs.Events.{ready_right}

pub verified : (g : Drafts) (kind : ℕ) (main : Key) (c : CodeValue) (r : Result (Option CodeValue) NoMemory) → IsReady g main → IsShort g main → c ≡ code_of g kind main → IfOk r (λ o. o ≡ (if valid c then Some c else None)) → Builds g kind main r
verified g kind main c (Err e) ready short same h = tt
verified g kind main c (Ok o) ready short same h =
    let yes : valid c ≡ true = ap valid same ∙ (ready_right g kind main ready short).is_valid in
    some o (h ∙ ap (λ (b : Bool). if b then Some c else None) yes)
  where
    some : (o : Option CodeValue) → o ≡ Some c → Builds g kind main (Ok o)
    some None e = cc
    some (Some d) e = let s : d ≡ c = cc in (s ∙ same, short)
