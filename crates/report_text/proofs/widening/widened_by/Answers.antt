use Rattle.std.proofs.Common.{◌++◌, ap, sym, ◌∙◌}
use Rattle.feast_base.proofs.Appending.{piece_done}
use Rattle.report_text.proofs.WideLines.{widened_next}
use Rattle.report_text.specs.Tables.{lists_of}
use Rattle.report_text.proofs.widening.widened_by.Goals as goal

pub loop-text-preserved : goal.loop-text-preserved
loop-text-preserved c =
    let l = c.loop-text in
    piece_done l.out.items _ _ _ _ c.in_ok-push_widened.ensures
    (ap (λ z. l.out.items ++ z) (sym (widened_next c.args.map.now (lists_of c.args.lists.now) l.left.now c.in-Some.text.now c.in-Some.rest.now c.in-Some.ensures.0)) ∙ l.invariant)

pub returns : goal.returns
returns c = c.in_ok-push_last.ensures c.args.map.now (lists_of c.args.lists.now) ∙ c.loop-text.invariant
