use Rattle.std.proofs.Common.{sym, subst, ◌∙◌}
use Rattle.feast_base.specs.Appending.{Appends}
use Rattle.report_text.proofs.WideLines.{last_none, last_open}
use Rattle.report_text.proofs.widening.push_last.Goals as goal

pub returns-then-is_empty : goal.returns-then-is_empty
returns-then-is_empty c = λ m lists. last_none m lists c.args.left.now c.args.out.now.items (sym c.is_empty.ensures ∙ c.if-is_empty.true)

pub returns-else-is_empty : goal.returns-else-is_empty
returns-else-is_empty c = λ m lists.
    subst (Appends c.args.out.now.items c.push.new.out.items c.push.result) (last_open m lists c.args.left.now (sym c.is_empty.ensures ∙ c.if-is_empty.false) c.requires) c.push.ensures
