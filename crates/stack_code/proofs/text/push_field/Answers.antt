use Rattle.feast_base.proofs.Appending.{Appends-at_exit}
use Rattle.stack_code.proofs.text.push_field.Goals as goal

pub returns-in_err-push_count-2 : goal.returns-in_err-push_count-2
returns-in_err-push_count-2 c =
    Appends-at_exit _ _ _ _ _ c.from_residual-in_err-push_count-2.result c.from_residual-in_err-push_count-2.ensures.1 (_, c.in_ok-push_count.ensures) c.in_err-push_count-2.ensures
