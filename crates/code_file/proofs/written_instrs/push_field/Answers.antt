use Rattle.feast_base.proofs.Appending.{Appends-at_exit}
use Rattle.code_file.proofs.written_instrs.push_field.Goals as goal

pub returns-in_err-push_byte-2 : goal.returns-in_err-push_byte-2
returns-in_err-push_byte-2 c =
    Appends-at_exit _ _ _ _ _ c.from_residual-in_err-push_byte-2.result c.from_residual-in_err-push_byte-2.ensures.1 (_, c.in_ok-push_byte.ensures) c.in_err-push_byte-2.ensures
