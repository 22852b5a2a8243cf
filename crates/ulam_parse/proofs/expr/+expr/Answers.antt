use Rattle.std.proofs.Common.{rules, arith, ◌+◌, ◌-◌}
use Rattle.std.proofs.lemmas.Grind.{common_steps}
use Rattle.ulam_tree.specs.RawViews.{expr_of, args_list}
use Rattle.ulam_parse.specs.Views.{from, first_word}
use Rattle.ulam_parse.specs.Reading.{more, more_args, expr_in, with_args}
use Rattle.ulam_parse.proofs.Steps.{expr_tired}
use Rattle.ulam_parse.proofs.Loops.{joined_none, args_step}
use Rattle.ulam_parse.proofs.Turns.{one_more, no_more}
use Rattle.ulam_parse.proofs.expr.+expr.Goals as goal

pub expr_in-returns-then-steps-eq0 : goal.expr_in-returns-then-steps-eq0
expr_in-returns-then-steps-eq0 t c = first_of (search (rules, expr_tired), grind (arith, common_steps, expr_tired))

pub more-returns-in_default : goal.more-returns-in_default
unfolding more
more-returns-in_default t c =
    let e = one_more (λ n. more (expr_in c.args.steps) c.args.least n (record { tree = expr_of c.turns.value; level = c.turns.top }) (from c.args.tape.now c.turns.next)) _ c.turns._turn c.turns-test.true c.turns.invariant in
    first_of (search rules, grind (arith, common_steps))

pub more-returns-in_err-right-in-Joins : goal.more-returns-in_err-right-in-Joins
unfolding more
more-returns-in_err-right-in-Joins t c =
    let e = one_more (λ n. more (expr_in c.args.steps) c.args.least n (record { tree = expr_of c.turns.value; level = c.turns.top }) (from c.args.tape.now c.turns.next)) _ c.turns._turn c.turns-test.true c.turns.invariant in
    first_of (search rules, grind (arith, common_steps))

pub more-returns-else-least-level : goal.more-returns-else-least-level
unfolding more
more-returns-else-least-level t c =
    let e = one_more (λ n. more (expr_in c.args.steps) c.args.least n (record { tree = expr_of c.turns.value; level = c.turns.top }) (from c.args.tape.now c.turns.next)) _ c.turns._turn c.turns-test.true c.turns.invariant in
    first_of (search rules, grind (arith, common_steps))

pub more-returns-in_err-mark-in-Tests : goal.more-returns-in_err-mark-in-Tests
unfolding more
more-returns-in_err-mark-in-Tests t c =
    let e = one_more (λ n. more (expr_in c.args.steps) c.args.least n (record { tree = expr_of c.turns.value; level = c.turns.top }) (from c.args.tape.now c.turns.next)) _ c.turns._turn c.turns-test.true c.turns.invariant in
    first_of (search rules, grind (arith, common_steps))

pub more-returns-else-least-le8 : goal.more-returns-else-least-le8
unfolding more
more-returns-else-least-le8 t c =
    let e = one_more (λ n. more (expr_in c.args.steps) c.args.least n (record { tree = expr_of c.turns.value; level = c.turns.top }) (from c.args.tape.now c.turns.next)) _ c.turns._turn c.turns-test.true c.turns.invariant in
    first_of (search rules, grind (arith, common_steps))

pub more-returns-in-Opens : goal.more-returns-in-Opens
unfolding more
more-returns-in-Opens t c =
    let e = one_more (λ n. more (expr_in c.args.steps) c.args.least n (record { tree = expr_of c.turns.value; level = c.turns.top }) (from c.args.tape.now c.turns.next)) _ c.turns._turn c.turns-test.true c.turns.invariant in
    first_of (search rules, grind (arith, common_steps))

pub more-turns-preserved : goal.more-turns-preserved
unfolding more
more-turns-preserved t c =
    let e = one_more (λ n. more (expr_in c.args.steps) c.args.least n (record { tree = expr_of c.turns.value; level = c.turns.top }) (from c.args.tape.now c.turns.next)) _ c.turns._turn c.turns-test.true c.turns.invariant in
    first_of (search rules, grind (arith, common_steps))

pub more-returns : goal.more-returns
unfolding more
more-returns t c =
    let e = no_more (λ n. more (expr_in c.args.steps) c.args.least n (record { tree = expr_of c.turns.value; level = c.turns.top }) (from c.args.tape.now c.turns.next)) _ c.turns._turn c.turns-test.false c.turns.invariant in
    first_of (search rules, grind (arith, common_steps))

pub more_args-returns-in_default : goal.more_args-returns-in_default
unfolding more_args
more_args-returns-in_default t c =
    let e = one_more (λ n. with_args (args_list c.turns.found.items) (more_args (expr_in c.args.steps) n (from c.args.tape.now c.turns.next))) _ c.turns._turn c.turns-test.true c.turns.invariant in
    first_of (search (rules, joined_none), grind (arith, common_steps, joined_none))

pub more_args-returns-in_err-value : goal.more_args-returns-in_err-value
unfolding more_args
more_args-returns-in_err-value t c =
    let e = one_more (λ n. with_args (args_list c.turns.found.items) (more_args (expr_in c.args.steps) n (from c.args.tape.now c.turns.next))) _ c.turns._turn c.turns-test.true c.turns.invariant in
    first_of (search rules, grind (arith, common_steps))

pub more_args-turns-preserved : goal.more_args-turns-preserved
more_args-turns-preserved t c =
    let e = one_more (λ n. with_args (args_list c.turns.found.items) (more_args (expr_in c.args.steps) n (from c.args.tape.now c.turns.next))) _ c.turns._turn c.turns-test.true c.turns.invariant in
    let st = args_step (expr_in c.args.steps) (c.count_from-turn-end.result + 1 - (c.turns._turn + 1)) c.turns.found.items c.in_ok-value.value (first_word (from c.args.tape.now c.turns.next)) (from c.args.tape.now c.turns.next)
    (from c.args.tape.now c.in-Some.behind) (from c.args.tape.now c.in_ok-value.behind) (search rules) (search rules) (search rules) in
    first_of (search rules, grind (arith, common_steps))

pub more_args-returns : goal.more_args-returns
unfolding more_args
more_args-returns t c =
    let e = no_more (λ n. with_args (args_list c.turns.found.items) (more_args (expr_in c.args.steps) n (from c.args.tape.now c.turns.next))) _ c.turns._turn c.turns-test.false c.turns.invariant in
    first_of (search rules, grind (arith, common_steps))
