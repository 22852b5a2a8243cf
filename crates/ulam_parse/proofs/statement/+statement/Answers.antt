use Rattle.std.proofs.Common.{rules, arith, ◌+◌, ◌-◌}
use Rattle.std.proofs.lemmas.Grind.{common_steps}
use Rattle.ulam_tree.specs.RawViews.{body_list}
use Rattle.ulam_parse.specs.Views.{from}
use Rattle.ulam_parse.specs.Statements.{body, with_body, statement_in, if_rest}
use Rattle.ulam_parse.proofs.Steps.{statement_tired}
use Rattle.ulam_parse.proofs.Loops.{body_none, body_step}
use Rattle.ulam_parse.proofs.Turns.{one_more, no_more}
use Rattle.ulam_parse.proofs.statement.+statement.Goals as goal

pub statement_in-returns-then-steps-eq0 : goal.statement_in-returns-then-steps-eq0
statement_in-returns-then-steps-eq0 t c = first_of (search (rules, statement_tired), grind (arith, common_steps, statement_tired))

pub body_in-returns-in-Some : goal.body_in-returns-in-Some
unfolding body
body_in-returns-in-Some t c =
    let e = one_more (λ n. with_body (body_list c.turns.found.items) (body (statement_in c.args.steps) n (from c.args.tape.now c.turns.next))) _ c.turns._turn c.turns-test.true c.turns.invariant in
    first_of (search (rules, body_none), grind (arith, common_steps, body_none))

pub body_in-returns-in_err-statement : goal.body_in-returns-in_err-statement
unfolding body
body_in-returns-in_err-statement t c =
    let e = one_more (λ n. with_body (body_list c.turns.found.items) (body (statement_in c.args.steps) n (from c.args.tape.now c.turns.next))) _ c.turns._turn c.turns-test.true c.turns.invariant in
    first_of (search (rules), grind (arith, common_steps))

pub body_in-turns-preserved : goal.body_in-turns-preserved
body_in-turns-preserved t c =
    let e = one_more (λ n. with_body (body_list c.turns.found.items) (body (statement_in c.args.steps) n (from c.args.tape.now c.turns.next))) _ c.turns._turn c.turns-test.true c.turns.invariant in
    let st = body_step (statement_in c.args.steps) (c.count_from-turn-end.result + 1 - (c.turns._turn + 1)) c.turns.found.items c.in_ok-statement.statement (from c.args.tape.now c.turns.next) (from c.args.tape.now c.in_ok-statement.behind) (search rules) (search rules) in
    first_of (search rules, grind (arith, common_steps))

pub body_in-returns : goal.body_in-returns
unfolding body
body_in-returns t c =
    let e = no_more (λ n. with_body (body_list c.turns.found.items) (body (statement_in c.args.steps) n (from c.args.tape.now c.turns.next))) _ c.turns._turn c.turns-test.false c.turns.invariant in
    first_of (search (rules), grind (arith, common_steps))

pub if_rest-returns : goal.if_rest-returns
unfolding if_rest
if_rest-returns t c = search rules
