use Rattle.feast_base.proofs.Appending.{Appends-at_exit}
use Rattle.code_file.proofs.writing.push_head.Goals as goal

pub returns-in_err-push_number : goal.returns-in_err-push_number
returns-in_err-push_number c =
    Appends-at_exit _ _ _ _ _ c.from_residual-in_err-push_number.result c.from_residual-in_err-push_number.ensures.1 (_, c.in_ok-push_name.ensures) c.in_err-push_number.ensures
