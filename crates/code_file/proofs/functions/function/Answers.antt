use Rattle.code_file.specs.Reading.{function_at}
use Rattle.code_file.proofs.Loops.{fails_then, stops_at}
use Rattle.code_file.proofs.functions.function.Goals as goal

pub returns-in_err-base : goal.returns-in_err-base
unfolding function_at
returns-in_err-base c =
    stops_at (λ x. (x.0, x.1.now)) c.from_residual-in_err-base.result _ (function_at c.args.bytes.now) c.from_residual-in_err-base.ensures.1
    (rw c.in_ok-name.ensures (fails_then _ _ _ c.in_err-base.ensures.gives))

pub returns-in_err-first : goal.returns-in_err-first
unfolding function_at
returns-in_err-first c =
    stops_at (λ x. (x.0, x.1.now)) c.from_residual-in_err-first.result _ (function_at c.args.bytes.now) c.from_residual-in_err-first.ensures.1
    (rw (c.in_ok-name.ensures, c.in_ok-base.ensures.gives) (fails_then _ _ _ c.in_err-first.ensures.gives))

pub returns-in_err-params : goal.returns-in_err-params
unfolding function_at
returns-in_err-params c =
    stops_at (λ x. (x.0, x.1.now)) c.from_residual-in_err-params.result _ (function_at c.args.bytes.now) c.from_residual-in_err-params.ensures.1
    (rw (c.in_ok-name.ensures, c.in_ok-base.ensures.gives, c.in_ok-first.ensures.gives) (fails_then _ _ _ c.in_err-params.ensures.gives))

pub returns-in_err-answer : goal.returns-in_err-answer
unfolding function_at
returns-in_err-answer c =
    stops_at (λ x. (x.0, x.1.now)) c.from_residual-in_err-answer.result _ (function_at c.args.bytes.now) c.from_residual-in_err-answer.ensures.1
    (rw (c.in_ok-name.ensures, c.in_ok-base.ensures.gives, c.in_ok-first.ensures.gives, c.in_ok-params.ensures.gives) (fails_then _ _ _ c.in_err-answer.ensures))

pub returns-in_err-slots : goal.returns-in_err-slots
unfolding function_at
returns-in_err-slots c =
    stops_at (λ x. (x.0, x.1.now)) c.from_residual-in_err-slots.result _ (function_at c.args.bytes.now) c.from_residual-in_err-slots.ensures.1
    (rw (c.in_ok-name.ensures, c.in_ok-base.ensures.gives, c.in_ok-first.ensures.gives, c.in_ok-params.ensures.gives, c.in_ok-answer.ensures) (fails_then _ _ _ c.in_err-slots.ensures))
