use Rattle.feast_run.proofs.Telling.{moves_then, tells_then, tells_exit}
use Rattle.feast_run.specs.Outputs.{output_text}
use Rattle.feast_run.specs.Values.{setting_value}
use Rattle.feast_run.proofs.auditing.audit_stages.Goals as goal

pub returns-clause-tells : goal.returns-clause-tells
returns-clause-tells g c =
    let rest = rw c.in_ok-setting.ensures.files at c.audit_setting.ensures.tells in
    tells_then output_text _ _ (setting_value c.in_ok-setting.setting) c.audit_setting.result c.in_ok-setting.ensures.tells rest

pub returns-in_err-setting-clause-tells : goal.returns-in_err-setting-clause-tells
returns-in_err-setting-clause-tells g c =
    let exit = c.from_residual in
    tells_exit setting_value output_text _ _ c.in_err-setting.field-0.0 exit.result exit.ensures.1
    c.in_err-setting.ensures.tells

pub returns-clause-moves : goal.returns-clause-moves
returns-clause-moves g c = moves_then _ _ _ c.audit_setting.result c.in_ok-setting.ensures.moves c.audit_setting.ensures.moves
