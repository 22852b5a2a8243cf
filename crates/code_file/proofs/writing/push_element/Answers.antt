use Rattle.feast_base.proofs.Appending.{Appends-at_exit}
use Rattle.code_file.proofs.writing.push_element.Goals as goal

pub returns-in_err-push_functions : goal.returns-in_err-push_functions
returns-in_err-push_functions c =
    Appends-at_exit _ _ _ _ _ c.from_residual-in_err-push_functions.result c.from_residual-in_err-push_functions.ensures.1 (_, c.in_ok-push_name.ensures) c.in_err-push_functions.ensures
