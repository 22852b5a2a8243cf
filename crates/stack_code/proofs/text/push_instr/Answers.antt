use Rattle.feast_base.proofs.Appending.{Appends-at_exit, more_after}
use Rattle.stack_code.proofs.text.push_instr.Goals as goal

pub returns-in_err-push_word : goal.returns-in_err-push_word
returns-in_err-push_word c =
    Appends-at_exit _ _ _ _ _ c.from_residual-in_err-push_word.result c.from_residual-in_err-push_word.ensures.1 (_, c.in_ok-push_number.ensures) c.in_err-push_word.ensures

pub returns-in_err-push_args : goal.returns-in_err-push_args
returns-in_err-push_args c =
    Appends-at_exit _ _ _ _ _ c.from_residual-in_err-push_args.result c.from_residual-in_err-push_args.ensures.1 (more_after _ _ _ (_, c.in_ok-push_number.ensures) (_, c.in_ok-push_word.ensures)) c.in_err-push_args.ensures
