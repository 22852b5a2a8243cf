use Rattle.feast_run.proofs.Telling.{job_exit, job_then, moves_job}
use Rattle.feast_run.proofs.Jobs.{legs_then}
use Rattle.feast_run.proofs.Missing.{runs_miss}
use Rattle.feast_run.specs.Answer.{runs_setting}
use Rattle.feast_run.specs.CodeFiles.{ready_packed}
use Rattle.feast_run.specs.Values.{setting_value}
use Rattle.feast_run.proofs.running.runpack_stages.Goals as goal

pub returns-clause-tells : goal.returns-clause-tells
returns-clause-tells g c = job_then _ runs_setting (setting_value c.in_ok-setting.setting) c.run_setting.result c.in_ok-setting.ensures.tells c.run_setting.ensures.tells

pub returns-in_err-setting-clause-tells : goal.returns-in_err-setting-clause-tells
returns-in_err-setting-clause-tells g c =
    let exit = c.from_residual in
    job_exit setting_value _ _ c.in_err-setting.field-0.0 exit.result exit.ensures.1
    c.in_err-setting.ensures.tells

pub returns-clause-legs : goal.returns-clause-legs
returns-clause-legs g c = legs_then _ (ready_packed (g.F.Shelf.state c.args.shelf.now).files c.args.world.now c.args.code.now) (setting_value c.in_ok-setting.setting) c.run_setting.result (λ o. tt) (λ l h. h) c.in_ok-setting.ensures.tells c.run_setting.ensures.legs

pub returns-clause-moves : goal.returns-clause-moves
returns-clause-moves g c = moves_job (runs_setting (setting_value c.in_ok-setting.setting)) _ _ c.run_setting.result (λ w h. runs_miss (setting_value c.in_ok-setting.setting) w h) c.in_ok-setting.ensures.moves c.run_setting.ensures.tells
