use Rattle.std.proofs.Common.{◌≡◌, ◌+◌, ◌-◌, ◌*◌}
use Rattle.ulam_tree.specs.RawViews.{expr_of, args_list}
use Rattle.ulam_parse.specs.Views.{from}
use Rattle.ulam_parse.specs.Reading as spec
use Rattle.ulam_parse.proofs.expr.+expr.Given as goal

abbrev pub decreases-after_path : goal.decreases-after_path
decreases-after_path l = 8 * l.steps + 4

abbrev pub decreases-args_in : goal.decreases-args_in
decreases-args_in l = 8 * l.steps + 3

abbrev pub decreases-boxed_in : goal.decreases-boxed_in
decreases-boxed_in l = 8 * l.steps + 1

abbrev pub decreases-climb : goal.decreases-climb
decreases-climb l = 8 * l.steps + 7

abbrev pub decreases-expr_in : goal.decreases-expr_in
decreases-expr_in l = 8 * l.steps

abbrev pub decreases-in_parens : goal.decreases-in_parens
decreases-in_parens l = 8 * l.steps + 2

abbrev pub decreases-more : goal.decreases-more
decreases-more l = 8 * l.steps + 2

abbrev pub decreases-more_args : goal.decreases-more_args
decreases-more_args l = 8 * l.steps + 2

abbrev pub decreases-path_or_call : goal.decreases-path_or_call
decreases-path_or_call l = 8 * l.steps + 5

abbrev pub decreases-operand : goal.decreases-operand
decreases-operand l = 8 * l.steps + 6

abbrev pub invariant-more-turns : goal.invariant-more-turns
invariant-more-turns l =
    spec.after_operand (spec.expr_in l.steps) l.least (expr_of l.fn.first) (from l.tape l.at) ≡ spec.more (spec.expr_in l.steps) l.least (l._turn-end - l._turn) (record { tree = expr_of l.value; level = l.top }) (from l.tape l.next)

abbrev pub invariant-more_args-turns : goal.invariant-more_args-turns
invariant-more_args-turns l =
    spec.with_args (args_list l.initial.found.items) (spec.later_args l.steps (from l.tape l.at))
    ≡ spec.with_args (args_list l.found.items) (spec.more_args (spec.expr_in l.steps) (l._turn-end - l._turn) (from l.tape l.next))
