use Rattle.feast_base.proofs.Appending.{Appends-at_exit, more_after}
use Rattle.code_file.proofs.writing.push_function.Goals as goal

pub returns-in_err-push_number : goal.returns-in_err-push_number
returns-in_err-push_number c =
    Appends-at_exit _ _ _ _ _ c.from_residual-in_err-push_number.result c.from_residual-in_err-push_number.ensures.1 (_, c.in_ok-push_head.ensures) c.in_err-push_number.ensures

pub returns-in_err-push_byte : goal.returns-in_err-push_byte
returns-in_err-push_byte c =
    Appends-at_exit _ _ _ _ _ c.from_residual-in_err-push_byte.result c.from_residual-in_err-push_byte.ensures.1 (more_after _ _ _ (_, c.in_ok-push_head.ensures) (_, c.in_ok-push_number.ensures)) c.in_err-push_byte.ensures
