use Rattle.std.proofs.Common.{inr}
use Rattle.ulam_parse.specs.Views.{from}
use Rattle.ulam_parse.proofs.Judging.{left_few, never_tired}
use Rattle.ulam_parse.proofs.Laws.{fails_left, fails_tired, some_left, sentence_law, syntax_law}
use Rattle.ulam_parse.proofs.judge.of_shallow.Goals as goal

pub place_of_left-requires-clause-some : goal.place_of_left-requires-clause-some
place_of_left-requires-clause-some c =
    some_left (from c.args.tape.now 0) c.in-Err-Left.left c.requires.ends (fails_left c.in-Err-Left.field-0 c.in-Err-Left.left _ c.in-Err-Left.field-0-is c.in-Err-Left.ensures.stops)

pub place_of_left-requires-clause-few : goal.place_of_left-requires-clause-few
place_of_left-requires-clause-few c =
    left_few (from c.args.tape.now 0) c.in-Err-Left.left (fails_left c.in-Err-Left.field-0 c.in-Err-Left.left _ c.in-Err-Left.field-0-is c.in-Err-Left.ensures.stops)

pub unreachable-requires : goal.unreachable-requires
unreachable-requires c = never_tired (from c.args.tape.now 0) (fails_tired c.in-Err-OutOfSteps.field-0 _ c.in-Err-OutOfSteps.field-0-is c.in-Err-OutOfSteps.ensures.stops)

pub returns-in-Ok-clause-found : goal.returns-in-Ok-clause-found
returns-in-Ok-clause-found c = sentence_law (from c.args.tape.now 0) _ c.requires.ends c.requires.shallow c.in-Ok.ensures.read

pub returns-in-Err-Left-clause-fault : goal.returns-in-Err-Left-clause-fault
returns-in-Err-Left-clause-fault c =
    inr (syntax_law (from c.args.tape.now 0) c.in-Err-Left.left c.place_of_left.result c.requires.shallow (fails_left c.in-Err-Left.field-0 c.in-Err-Left.left _ c.in-Err-Left.field-0-is c.in-Err-Left.ensures.stops) c.place_of_left.ensures)
