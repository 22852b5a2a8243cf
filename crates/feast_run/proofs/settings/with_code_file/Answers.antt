use Rattle.code_file.specs.Form.{CodesValue}
use Rattle.feast_run.proofs.CodeStages.{codes_said}
use Rattle.feast_run.proofs.Telling.{tells_then, tells_exit}
use Rattle.feast_run.specs.Values.{setting_value}
use Rattle.feast_run.proofs.settings.with_code_file.Goals as goal

pub with_codes-requires : goal.with_codes-requires
with_codes-requires g c = codes_said _ c.args.code.now c.in_ok-set.set c.in_ok-set.ensures.tells

pub returns-clause-tells : goal.returns-clause-tells
returns-clause-tells g c = tells_then setting_value _ _ c.in_ok-set.set c.with_codes.result c.in_ok-set.ensures.tells c.with_codes.ensures.tells

pub returns-in_err-set-clause-tells : goal.returns-in_err-set-clause-tells
returns-in_err-set-clause-tells g c =
    let exit = c.from_residual in
    tells_exit (λ (es : CodesValue). es) setting_value _ _ c.in_err-set.field-0.0 exit.result exit.ensures.1
    c.in_err-set.ensures.tells
