use Rattle.feast_run.proofs.Telling.{tells_then, tells_exit}
use Rattle.feast_run.specs.Values.{setting_value}
use Rattle.element_set.specs.Sets.{set_value}
use Rattle.feast_run.proofs.settings.with_element_files.Goals as goal

pub returns-clause-tells : goal.returns-clause-tells
returns-clause-tells g c = tells_then setting_value _ _ (set_value c.in_ok-set.set) c.with_set.result c.in_ok-set.ensures.tells c.with_set.ensures.tells

pub returns-in_err-set-clause-tells : goal.returns-in_err-set-clause-tells
returns-in_err-set-clause-tells g c =
    let exit = c.from_residual in
    tells_exit set_value setting_value _ _ c.in_err-set.field-0.0 exit.result exit.ensures.1
    c.in_err-set.ensures.tells
