use Rattle.std.proofs.Common.{codes, sym, subst}
use Rattle.feast_base.proofs.Appending.{Appends-then}
use Rattle.feast_base.specs.Appending.{Appends}
use Rattle.report_text.proofs.WideLines.{line_itself}
use Rattle.report_text.proofs.widening.push_same.Goals as goal

pub returns : goal.returns
returns c =
    let old = c.args.out.now.items in
    let new = c.push-2.new.out.items in
    subst (Appends old new c.push-2.result) (sym (line_itself c.args.text.now))
    (Appends-then old c.push.new.out.items new c.args.text.now (codes "\n") c.push-2.result c.in_ok-push.ensures c.push-2.ensures)
