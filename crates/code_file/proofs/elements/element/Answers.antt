use Rattle.code_file.specs.Reading.{element_at}
use Rattle.code_file.proofs.Loops.{fails_then, stops_at}
use Rattle.code_file.proofs.elements.element.Goals as goal

pub returns-in_err-functions : goal.returns-in_err-functions
unfolding element_at
returns-in_err-functions c =
    stops_at (λ x. (x.0, x.1.now)) c.from_residual-in_err-functions.result _ (element_at c.args.most c.args.kind c.args.bytes.now) c.from_residual-in_err-functions.ensures.1
    (rw c.in_ok-name.ensures (fails_then _ _ _ c.in_err-functions.ensures))

pub returns-in_err-instrs : goal.returns-in_err-instrs
unfolding element_at
returns-in_err-instrs c =
    stops_at (λ x. (x.0, x.1.now)) c.from_residual-in_err-instrs.result _ (element_at c.args.most c.args.kind c.args.bytes.now) c.from_residual-in_err-instrs.ensures.1
    (rw (c.in_ok-name.ensures, c.in_ok-functions.ensures) (fails_then _ _ _ c.in_err-instrs.ensures))
