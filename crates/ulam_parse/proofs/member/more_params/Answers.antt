use Rattle.std.proofs.Common.{rules, arith, map, ◌+◌, ◌-◌}
use Rattle.std.proofs.lemmas.Grind.{common_steps}
use Rattle.ulam_tree.specs.RawViews.{param_of}
use Rattle.ulam_parse.specs.Views.{from, first_word}
use Rattle.ulam_parse.specs.Reading.{with_front}
use Rattle.ulam_parse.specs.Files.{more_params}
use Rattle.ulam_parse.proofs.Loops.{params_step}
use Rattle.ulam_parse.proofs.Turns.{one_more, no_more}
use Rattle.ulam_parse.proofs.member.more_params.Goals as goal

pub returns-in_default : goal.returns-in_default
unfolding more_params
returns-in_default c =
    let e = one_more (λ n. with_front (map param_of c.turns.found.items) (more_params n (from c.args.tape.now c.turns.next))) _ c.turns._turn c.turns-test.true c.turns.invariant in
    first_of (search (rules), grind (arith, common_steps))

pub returns-in_err-value : goal.returns-in_err-value
unfolding more_params
returns-in_err-value c =
    let e = one_more (λ n. with_front (map param_of c.turns.found.items) (more_params n (from c.args.tape.now c.turns.next))) _ c.turns._turn c.turns-test.true c.turns.invariant in
    first_of (search (rules), grind (arith, common_steps))

pub turns-preserved : goal.turns-preserved
turns-preserved c =
    let e = one_more (λ n. with_front (map param_of c.turns.found.items) (more_params n (from c.args.tape.now c.turns.next))) _ c.turns._turn c.turns-test.true c.turns.invariant in
    let st = params_step (c.count_from-turn-end.result + 1 - (c.turns._turn + 1)) c.turns.found.items c.in_ok-value.value (first_word (from c.args.tape.now c.turns.next)) (from c.args.tape.now c.turns.next) (from c.args.tape.now c.in-Some.behind) (from c.args.tape.now c.in_ok-value.behind) (search rules) (search rules) (search rules) in
    first_of (search rules, grind (arith, common_steps))

pub returns : goal.returns
unfolding more_params
returns c =
    let e = no_more (λ n. with_front (map param_of c.turns.found.items) (more_params n (from c.args.tape.now c.turns.next))) _ c.turns._turn c.turns-test.false c.turns.invariant in
    first_of (search (rules), grind (arith, common_steps))
