use Rattle.std.proofs.Common.{◌∙◌, ap, drop, ◌+◌, refl}
use Rattle.report_text.proofs.Takings.{takes_left, drop_more, takes_first_of}
use Rattle.report_text.specs.Reading.{first_of}
use Rattle.report_text.proofs.cursors.seek.Goals as goal

pub returns-clause-value : goal.returns-clause-value
returns-clause-value c = takes_first_of c.pass.new.stream c.next.new.self c.next.result c.next.ensures ∙ ap first_of c.pass.ensures

pub returns-clause-left : goal.returns-clause-left
returns-clause-left c = takes_left c.pass.new.stream c.next.new.self c.next.result c.next.ensures ∙ ap (λ l. drop 1 l) c.pass.ensures ∙ drop_more c.args.stream.now c.args.count 1 (c.args.count + 1) refl
