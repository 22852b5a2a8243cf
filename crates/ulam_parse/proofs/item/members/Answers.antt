use Rattle.std.proofs.Common.{rules, arith, map, ◌+◌, ◌-◌}
use Rattle.std.proofs.lemmas.Grind.{common_steps}
use Rattle.ulam_tree.specs.RawViews.{shared_member}
use Rattle.ulam_parse.specs.Views.{from}
use Rattle.ulam_parse.specs.Reading.{with_front}
use Rattle.ulam_parse.specs.Files.{members}
use Rattle.ulam_parse.proofs.Loops.{members_step}
use Rattle.ulam_parse.proofs.Turns.{one_more, no_more}
use Rattle.ulam_parse.proofs.item.members.Goals as goal

pub returns-in-Some : goal.returns-in-Some
unfolding members
returns-in-Some c =
    let e = one_more (λ n. with_front (map shared_member c.turns.found.items) (members n (from c.args.tape.now c.turns.next))) _ c.turns._turn c.turns-test.true c.turns.invariant in
    first_of (search (rules), grind (arith, common_steps))

pub returns-in_err-value : goal.returns-in_err-value
unfolding members
returns-in_err-value c =
    let e = one_more (λ n. with_front (map shared_member c.turns.found.items) (members n (from c.args.tape.now c.turns.next))) _ c.turns._turn c.turns-test.true c.turns.invariant in
    first_of (search (rules), grind (arith, common_steps))

pub turns-preserved : goal.turns-preserved
turns-preserved c =
    let e = one_more (λ n. with_front (map shared_member c.turns.found.items) (members n (from c.args.tape.now c.turns.next))) _ c.turns._turn c.turns-test.true c.turns.invariant in
    let st = members_step (c.count_from-turn-end.result + 1 - (c.turns._turn + 1)) c.turns.found.items c.in_ok-value.value (from c.args.tape.now c.turns.next) (from c.args.tape.now c.in_ok-value.behind) (search rules) (search rules) in
    first_of (search rules, grind (arith, common_steps))

pub returns : goal.returns
unfolding members
returns c =
    let e = no_more (λ n. with_front (map shared_member c.turns.found.items) (members n (from c.args.tape.now c.turns.next))) _ c.turns._turn c.turns-test.false c.turns.invariant in
    first_of (search (rules), grind (arith, common_steps))
