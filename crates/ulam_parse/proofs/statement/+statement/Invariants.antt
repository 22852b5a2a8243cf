use Rattle.std.proofs.Common.{◌≡◌, ◌+◌, ◌-◌, ◌*◌}
use Rattle.ulam_tree.specs.RawViews.{body_list}
use Rattle.ulam_parse.specs.Views.{from}
use Rattle.ulam_parse.specs.Statements as spec
use Rattle.ulam_parse.proofs.statement.+statement.Given as goal

abbrev pub decreases-any_statement : goal.decreases-any_statement
decreases-any_statement l = 8 * l.steps + 7

abbrev pub decreases-block_rest : goal.decreases-block_rest
decreases-block_rest l = 8 * l.steps + 6

abbrev pub decreases-body_in : goal.decreases-body_in
decreases-body_in l = 8 * l.steps + 5

abbrev pub decreases-boxed_in : goal.decreases-boxed_in
decreases-boxed_in l = 8 * l.steps + 1

abbrev pub decreases-else_part : goal.decreases-else_part
decreases-else_part l = 8 * l.steps + 5

abbrev pub decreases-for_rest : goal.decreases-for_rest
decreases-for_rest l = 8 * l.steps + 6

abbrev pub decreases-if_rest : goal.decreases-if_rest
decreases-if_rest l = 8 * l.steps + 6

abbrev pub decreases-statement_in : goal.decreases-statement_in
decreases-statement_in l = 8 * l.steps

abbrev pub decreases-while_rest : goal.decreases-while_rest
decreases-while_rest l = 8 * l.steps + 6

abbrev pub invariant-body_in-turns : goal.invariant-body_in-turns
invariant-body_in-turns l =
    spec.with_body (body_list l.initial.found.items) (spec.body_within l.steps (from l.tape l.at))
    ≡ spec.with_body (body_list l.found.items) (spec.body (spec.statement_in l.steps) (l._turn-end - l._turn) (from l.tape l.next))
