use Rattle.feast_base.proofs.Appending.{Appends-at_exit, more_after}
use Rattle.stack_code.proofs.text.push_head.Goals as goal

pub returns-in_err-push_count : goal.returns-in_err-push_count
returns-in_err-push_count c =
    Appends-at_exit _ _ _ _ _ c.from_residual-in_err-push_count.result c.from_residual-in_err-push_count.ensures.1 (_, c.in_ok-push.ensures) c.in_err-push_count.ensures

pub returns-in_err-push_word : goal.returns-in_err-push_word
returns-in_err-push_word c =
    Appends-at_exit _ _ _ _ _ c.from_residual-in_err-push_word.result c.from_residual-in_err-push_word.ensures.1 (more_after _ _ _ (_, c.in_ok-push.ensures) (_, c.in_ok-push_count.ensures)) c.in_err-push_word.ensures

pub returns-in_err-push_count-2 : goal.returns-in_err-push_count-2
returns-in_err-push_count-2 c =
    Appends-at_exit _ _ _ _ _ c.from_residual-in_err-push_count-2.result c.from_residual-in_err-push_count-2.ensures.1 (more_after _ _ _ (more_after _ _ _ (_, c.in_ok-push.ensures) (_, c.in_ok-push_count.ensures)) (_, c.in_ok-push_word.ensures)) c.in_err-push_count-2.ensures

pub returns-in_err-push_count-3 : goal.returns-in_err-push_count-3
returns-in_err-push_count-3 c =
    Appends-at_exit _ _ _ _ _ c.from_residual-in_err-push_count-3.result c.from_residual-in_err-push_count-3.ensures.1 (more_after _ _ _ (more_after _ _ _ (more_after _ _ _ (_, c.in_ok-push.ensures) (_, c.in_ok-push_count.ensures)) (_, c.in_ok-push_word.ensures)) (_, c.in_ok-push_count-2.ensures)) c.in_err-push_count-3.ensures
