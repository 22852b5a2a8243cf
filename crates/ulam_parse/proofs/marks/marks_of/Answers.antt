use Rattle.std.proofs.lemmas.List.Elements.{All-push}
use Rattle.ulam_parse.specs.Tokens.{tok_of}
use Rattle.ulam_parse.specs.Marks.{tok_at, IsMark}
use Rattle.ulam_parse.proofs.Marking.{marked_more}
use Rattle.ulam_parse.proofs.marks.marks_of.Goals as goal

pub loop-token-preserved : goal.loop-token-preserved
loop-token-preserved c =
    let b = c.args.bytes.now in
    let more = marked_more (tok_at b) (tok_of b) c.loop-token.marks.items c.mark_of.result c.args.tokens.now c.loop-token.token-index _ c.loop-token-test.true c.loop-token.invariant.views c.mark_of.ensures.same in
    let each = All-push (λ m. IsMark b m) c.loop-token.marks.items c.mark_of.result c.loop-token.invariant.each c.mark_of.ensures.sound in
    record { views = rw c.in_ok-push.ensures.items more; each = rw c.in_ok-push.ensures.items each }
