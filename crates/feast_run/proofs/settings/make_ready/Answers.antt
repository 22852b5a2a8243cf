use Rattle.feast_run.proofs.Telling.{moves_then, tells_then, tells_exit}
use Rattle.feast_run.specs.Values.{draft_value, setting_value}
use Rattle.feast_run.proofs.settings.make_ready.Goals as goal

pub returns-clause-tells : goal.returns-clause-tells
returns-clause-tells g c =
    let rest = rw c.in_ok-draft.ensures.files at c.with_element_files.ensures.tells in
    tells_then setting_value _ _ (draft_value c.in_ok-draft.draft) c.with_element_files.result c.in_ok-draft.ensures.tells rest

pub returns-in_err-draft-clause-tells : goal.returns-in_err-draft-clause-tells
returns-in_err-draft-clause-tells g c =
    let exit = c.from_residual in
    tells_exit draft_value setting_value _ _ c.in_err-draft.field-0.0 exit.result exit.ensures.1
    c.in_err-draft.ensures.tells

pub returns-clause-moves : goal.returns-clause-moves
returns-clause-moves g c = moves_then _ _ _ c.with_element_files.result c.in_ok-draft.ensures.moves c.with_element_files.ensures.moves
