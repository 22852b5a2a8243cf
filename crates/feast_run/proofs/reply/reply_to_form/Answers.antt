use Rattle.std.proofs.Common.{ap, inl, refl}
use Rattle.call_form.specs.Forms.{form_value}
use Rattle.feast_base.specs.Refusals.{refusal_line}
use Rattle.feast_run.proofs.Replied.{job_replied, line_replied, missed_keeps}
use Rattle.feast_run.specs.Changes.{change}
use Rattle.feast_run.proofs.reply.reply_to_form.Goals as goal

pub returns-in-Ok-clause-says : goal.returns-in-Ok-clause-says
returns-in-Ok-clause-says g c =
    job_replied (form_value c.args.form) (change g.F.Shelf.state c.args.shelf.now c.form_stages.new.shelf) c.in-Ok.job c.in-Ok.ensures.moves c.in-Ok.ensures.tells c.in-Ok.ensures.legs

pub returns-in-Err-Refused-clause-says : goal.returns-in-Err-Refused-clause-says
returns-in-Err-Refused-clause-says g c =
    let told = (rw c.in-Err-Refused.field-0-is at c.in-Err-Refused.ensures.tells).0 in
    let moves = rw c.in-Err-Refused.field-0-is at c.in-Err-Refused.ensures.moves in
    line_replied (form_value c.args.form) (change g.F.Shelf.state c.args.shelf.now c.form_stages.new.shelf) c.status_of.result _ _ c.refuse.result told moves c.status_of.ensures refl (inl moves) c.refuse.ensures.line

pub returns-in-Err-Missing-clause-says : goal.returns-in-Err-Missing-clause-says
unfolding refusal_line
returns-in-Err-Missing-clause-says g c =
    let told = rw c.in-Err-Missing.field-0-is at c.in-Err-Missing.ensures.tells in
    let notes = rw c.in-Err-Missing.field-0-is at c.in-Err-Missing.ensures.moves in
    let shelf = change g.F.Shelf.state c.args.shelf.now c.form_stages.new.shelf in
    line_replied (form_value c.args.form) shelf _ _ _ c.refuse-in-Err-Missing.result told notes refl (ap (refusal_line c.in-Err-Missing.word.now) c.whole_file.ensures) (missed_keeps (form_value c.args.form) shelf c.in-Err-Missing.word.now told notes) c.refuse-in-Err-Missing.ensures.line
