use Rattle.feast_base.proofs.Appending.{Appends-at_exit}
use Rattle.world_text.proofs.printed.push_plane.Goals as goal

pub returns-in_err-push_two : goal.returns-in_err-push_two
returns-in_err-push_two c =
    Appends-at_exit _ c.args.out.now.items _ _ _ c.from_residual-in_err-push_two.result
    c.from_residual-in_err-push_two.ensures.1 (_, c.in_ok-push_header.ensures) c.in_err-push_two.ensures
