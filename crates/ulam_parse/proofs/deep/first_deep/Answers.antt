use Rattle.std.proofs.Common.{◌<◌, ◌≤◌, ◌+◌, ◌∙◌, ap, sym, subst, arith}
use Rattle.ulam_parse.specs.Marks.{tok_at}
use Rattle.ulam_parse.specs.Nesting.{depth}
use Rattle.ulam_parse.specs.Nests.{nest_of}
use Rattle.ulam_parse.specs.Sentences.{deep_from}
use Rattle.ulam_parse.specs.Views.{from}
use Rattle.ulam_parse.proofs.Deeper.{deep_more, deep_hit}
use Rattle.ulam_parse.proofs.deep.first_deep.Goals as goal

pub returns-then-depth-gt-MOST_DEPTH : goal.returns-then-depth-gt-MOST_DEPTH
returns-then-depth-gt-MOST_DEPTH c =
    let tape = c.args.tape.now in
    let at = c.loop-at.at in
    let many : 64 < depth (nest_of c.in_ok-nest.nest) = omega (arith, c.if-depth-gt-MOST_DEPTH.true, c.depth.ensures) in
    c.loop-at.invariant.goes
    ∙ deep_hit at (nest_of c.loop-at.nest) (tok_at tape.bytes.now c.in-Some.mark) (from tape at) (from tape (at + 1)) c.in-Some.ensures.some
    (subst (λ n. 64 < depth n) c.in_ok-nest.ensures.steps many)

pub loop-at-preserved : goal.loop-at-preserved
loop-at-preserved c =
    let tape = c.args.tape.now in
    let at = c.loop-at.at in
    let token = tok_at tape.bytes.now c.in-Some.mark in
    let stepped = c.in_ok-nest.ensures.steps in
    let few : depth (nest_of c.in_ok-nest.nest) ≤ 64 = omega (arith, c.if-depth-gt-MOST_DEPTH.false, c.depth.ensures) in
    let more = deep_more at (nest_of c.loop-at.nest) token (from tape at) (from tape (at + 1)) c.in-Some.ensures.some
    (subst (λ n. depth n ≤ 64) stepped few) in
    record {
      few = few;
      goes = c.loop-at.invariant.goes ∙ more ∙ ap (λ n. deep_from (at + 1) n (from tape (at + 1))) (sym stepped);
    }
