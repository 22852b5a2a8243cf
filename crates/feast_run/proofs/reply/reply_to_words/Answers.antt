use Rattle.std.proofs.Common.{[], ◌∙◌, ap, refl}
use Rattle.feast_base.specs.Refusals.{refusal_line}
use Rattle.feast_run.proofs.Replied.{usage_replied}
use Rattle.feast_run.specs.Changes.{change}
use Rattle.feast_run.specs.Tellings.{Keeps}
use Rattle.feast_run.proofs.reply.reply_to_words.Goals as goal

pub returns-in-None-clause-says : goal.returns-in-None-clause-says
unfolding refusal_line
returns-in-None-clause-says g c =
    let s = g.F.Shelf.state c.args.shelf.now in
    let kept : Keeps s s = record { failed = refl; later = λ n h. h } in
    rw c.in-None.ensures.value (usage_replied (change g.F.Shelf.state c.args.shelf.now c.args.shelf.now) _ _ c.refuse.result kept (λ t is. record { leaves = kept; status_is = refl; text_is = is ∙ ap (refusal_line []) c.whole_file.ensures }) c.refuse.ensures.line)
