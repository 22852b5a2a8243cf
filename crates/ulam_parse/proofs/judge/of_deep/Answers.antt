use Rattle.std.proofs.Common.{◌+◌, ◌∙◌}
use Rattle.ulam_parse.specs.Marks.{tok_at}
use Rattle.ulam_parse.specs.Views.{from}
use Rattle.ulam_parse.proofs.Judging.{left_few, never_tired}
use Rattle.ulam_parse.proofs.Laws.{fails_left, fails_tired, told_fault, told_memory, gone, from_drop, deep_within, depth_read_law, depth_ended_law, front_syntax_law}
use Rattle.ulam_parse.proofs.judge.of_deep.Goals as goal
use Rattle.ulam_parse.proofs.judge.of_deep.Goals.{in-Ok, in-Err-Left+then-left-eq0, in-Err-Left+else-left-eq0, in-Err-NoMemory}

pub unreachable-requires : goal.unreachable-requires
unreachable-requires c = gone (from c.args.tape.now 0) c.args.at (deep_within (from c.args.tape.now 0) c.args.at c.requires.deep) (from_drop c.args.tape.now c.args.at ∙ c.in_default.ensures.none)

pub place_of_left-requires-clause-few : goal.place_of_left-requires-clause-few
place_of_left-requires-clause-few c =
    left_few (from c.front-seen.result 0) c.in-Err-Left.left (fails_left c.in-Err-Left.field-0 c.in-Err-Left.left _ c.in-Err-Left.field-0-is c.in-Err-Left.ensures.stops)

pub unreachable-requires-in-Err-OutOfSteps : goal.unreachable-requires-in-Err-OutOfSteps
unreachable-requires-in-Err-OutOfSteps c = never_tired (from c.front-seen.result 0) (fails_tired c.in-Err-OutOfSteps.field-0 _ c.in-Err-OutOfSteps.field-0-is c.in-Err-OutOfSteps.ensures.stops)

pub returns : goal.returns
returns c =
    let ts = from c.args.tape.now 0 in
    let us = from c.front-seen.result 0 in
    let behind = from c.args.tape.now (c.args.at + 1) in
    let t = tok_at c.args.tape.now.bytes.now c.in-Some.mark in
    let stands = from_drop c.args.tape.now c.args.at ∙ c.in-Some.ensures.some in
    elim c.match-whole.branch [
      | in-Ok w ↦ told_fault ts _ _ w.result-is (depth_read_law ts us behind c.args.at t behind _ c.requires.ends c.requires.deep c.front-seen.ensures.split c.front-seen.ensures.long stands w.in-Ok.ensures.read)
      | in-Err-Left+then-left-eq0 w ↦
          told_fault ts _ _ w.result-is
          (depth_ended_law ts us behind w.in-Err-Left.left c.args.at t behind w.if-left-eq0.true c.requires.deep c.front-seen.ensures.split c.front-seen.ensures.long stands
          (fails_left w.in-Err-Left.field-0 w.in-Err-Left.left _ w.in-Err-Left.field-0-is w.in-Err-Left.ensures.stops))
      | in-Err-Left+else-left-eq0 w ↦
          told_fault ts _ _ w.result-is
          (front_syntax_law ts us behind w.in-Err-Left.left c.args.at w.place_of_left.result c.requires.deep c.front-seen.ensures.split c.front-seen.ensures.long
          (fails_left w.in-Err-Left.field-0 w.in-Err-Left.left _ w.in-Err-Left.field-0-is w.in-Err-Left.ensures.stops) w.place_of_left.ensures)
      | in-Err-NoMemory w ↦ told_memory ts _ w.result-is
    ]
