use Rattle.std.proofs.Common.{length, take, drop, ap, ◌∙◌, arith}
use Rattle.std.specs.Prelude.{fold}
use Rattle.std.proofs.lemmas.List.{length-take-le, length-drop}
use Rattle.ulam_lex.specs.Steps.{next_place}
use Rattle.ulam_lex.proofs.Places.{place_column, passed_is}
use Rattle.ulam_lex.proofs.Progress.{start_fault}
use Rattle.ulam_lex.proofs.lexer.step.Goals as goal

pub place_after-requires-clause-column : goal.place_after-requires-clause-column
place_after-requires-clause-column c =
    let before = take c.args.at c.args.bytes.now in
    let column = place_column c.args.place c.args.place.file before c.requires.placed in
    let counted = length-take-le c.args.at c.args.bytes.now (omega arith) in
    let left = length-drop c.args.at c.args.bytes.now in
    let whole = c.split_at.ensures.back_len in
    let front = c.split_at-in-BadByte.ensures.front_len in
    let behind = c.split_at-in-BadByte.ensures.back_len in
    let within = c.requires.within in
    let short = c.requires.short in
    omega arith

pub returns-in-BadByte : goal.returns-in-BadByte
returns-in-BadByte c =
    let before = take c.args.at c.args.bytes.now in
    let rest = drop c.args.at c.args.bytes.now in
    let start = rw c.split_at.ensures.back at c.in-BadByte.ensures in
    let front = c.split_at-in-BadByte.ensures.front ∙ ap (take c.in-BadByte.behind) c.split_at.ensures.back in
    let passed = c.place_after.ensures ∙ ap (fold next_place c.args.place) front in (
      take c.in-BadByte.behind rest,
      drop c.in-BadByte.behind rest,
      start_fault (length c.args.tokens.now.items) rest (take c.in-BadByte.behind rest) (drop c.in-BadByte.behind rest) start.1,
      passed_is c.args.place c.place_after.result c.args.place.file before (take c.in-BadByte.behind rest) c.requires.placed passed,
    )
