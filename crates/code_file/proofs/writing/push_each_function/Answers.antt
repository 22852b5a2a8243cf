use Rattle.std.proofs.Common.{◌++◌, ◌∙◌, ap}
use Rattle.feast_base.proofs.Appending.{Appends-at_exit}
use Rattle.code_file.specs.Form.{function_bytes}
use Rattle.code_file.proofs.Loops.{bytes_more}
use Rattle.code_file.proofs.writing.push_each_function.Goals as goal

pub returns-in_err-push_function : goal.returns-in_err-push_function
returns-in_err-push_function c =
    Appends-at_exit _ c.args.out.now.items c.loop-function.out.items _ _ c.from_residual.result c.from_residual.ensures.1 (_, c.loop-function.invariant) c.in_err-push_function.ensures

pub loop-function-preserved : goal.loop-function-preserved
loop-function-preserved c =
    bytes_more function_bytes c.loop-function.function-index c.args.functions.now c.args.out.now.items
    c.loop-function.out.items c.push_function.new.out.items c.function-item.result
    c.loop-function-test.true
    (c.in_ok-push_function.ensures ∙ ap (λ f. c.loop-function.out.items ++ function_bytes f)
    c.function-item.is) c.loop-function.invariant
