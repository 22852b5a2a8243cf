use Rattle.std.proofs.Common.{◌≡◌, length, ap, subst}
use Rattle.std.proofs.lemmas.Result.{err_from_is_err_and}
use Rattle.feast_base.specs.declared.place.Place.{Place}
use Rattle.ulam_lex.specs.Steps.{cut_at, TakesPiece, IsFaultIn}
use Rattle.ulam_lex.proofs.Progress.{read_more, read_fault}
use Rattle.ulam_lex.proofs.lexer.read.Goals as goal

pub returns-in_err-len-clause-fault : goal.returns-in_err-len-clause-fault
returns-in_err-len-clause-fault c =
    let file : c.loop-at.place.file ≡ c.args.file = ap (λ (p : Place). p.file) c.loop-at.invariant.placed in
    let p = err_from_is_err_and c.from_residual.result c.from_residual.ensures.1 in
    let fault = subst (λ f. IsFaultIn (cut_at f c.args.bytes.now c.loop-at.at) (length c.loop-at.tokens.items) c.in_err-len.field-0.0) file c.in_err-len.ensures in
    rw (p.1, p.2) (read_fault c.args.file c.args.bytes.now c.loop-at.at c.loop-at.tokens.items c.loop-at.place c.in_err-len.field-0.0 c.loop-at.invariant fault)

pub loop-at-preserved : goal.loop-at-preserved
loop-at-preserved c =
    let file : c.loop-at.place.file ≡ c.args.file = ap (λ (p : Place). p.file) c.loop-at.invariant.placed in
    let taken = subst (λ f. TakesPiece (cut_at f c.args.bytes.now c.loop-at.at) c.loop-at.tokens.items c.step.new.tokens.items c.in_ok-len.len c.in_ok-len.next) file c.in_ok-len.ensures in
    read_more c.args.file c.args.bytes.now c.loop-at.at c.loop-at.tokens.items c.loop-at.place c.step.new.tokens.items c.in_ok-len.len c.in_ok-len.next c.loop-at.invariant taken
