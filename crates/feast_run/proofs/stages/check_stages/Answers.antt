use Rattle.element_set.specs.Sets.{check_text, set_value}
use Rattle.feast_run.proofs.Telling.{moves_last, tells_exit, tells_then}
use Rattle.feast_run.specs.Answer.{shows}
use Rattle.feast_run.specs.Outputs.{output_text}
use Rattle.feast_run.proofs.stages.check_stages.Goals as goal

pub returns-clause-tells : goal.returns-clause-tells
returns-clause-tells g c = tells_then output_text _ _ (set_value c.in_ok-set.set) c.check_output.result c.in_ok-set.ensures.tells c.check_output.ensures.tells

pub returns-in_err-set-clause-tells : goal.returns-in_err-set-clause-tells
returns-in_err-set-clause-tells g c =
    let exit = c.from_residual in
    tells_exit set_value output_text _ _ c.in_err-set.field-0.0 exit.result exit.ensures.1
    c.in_err-set.ensures.tells

pub returns-clause-moves : goal.returns-clause-moves
returns-clause-moves g c =
    moves_last output_text (shows check_text (set_value c.in_ok-set.set)) _ _ c.check_output.result (λ w h. absurd h)
    c.in_ok-set.ensures.moves c.check_output.ensures.tells
