use Rattle.std.proofs.Common.{◌≡◌, ◌<◌, ◌++◌, sym, ◌∙◌, ap, length, get_or, arith}
use Rattle.feast_base.proofs.Appending.{more_after, Appends-at_exit, piece_done}
use Rattle.stack_code.proofs.Lines.{function_texts-step}
use Rattle.stack_code.proofs.text.push_functions.Goals as goal

pub loop-k-preserved : goal.loop-k-preserved
loop-k-preserved c =
    let fs = c.args.code.now.functions in
    let f = c.index-functions-k.result in
    let lt : c.loop-k.k < length fs = omega (arith, ap length c.functions-functions.ensures) in
    let at : f ≡ get_or fs c.loop-k.k f = c.index-functions-k.is ∙ ap (λ l. get_or l c.loop-k.k f) c.functions-functions.ensures in
    let step = function_texts-step c.args.code.now c.loop-k.k c.end_of-end.result fs f lt at c.end_of-end.ensures in
    record {
      done = piece_done c.loop-k.out.items _ _ _ _ c.in_ok-push_function.ensures (ap (λ z. c.loop-k.out.items ++ z) (sym step) ∙ c.loop-k.invariant.done);
      kept = more_after c.args.out.now.items c.loop-k.out.items _ c.loop-k.invariant.kept (_, c.in_ok-push_function.ensures);
    }

pub returns-in_err-push_function : goal.returns-in_err-push_function
returns-in_err-push_function c =
    Appends-at_exit _ c.args.out.now.items c.loop-k.out.items _ _ c.from_residual.result c.from_residual.ensures.1 c.loop-k.invariant.kept c.in_err-push_function.ensures
