use Rattle.std.proofs.Common.{arith, ◌∙◌, ap, drop, ◌+◌, refl}
use Rattle.report_text.proofs.Takings.{takes_over, takes_left, drop_more}
use Rattle.report_text.proofs.cursors.pass.Goals as goal

pub returns-in-None : goal.returns-in-None
returns-in-None c = takes_over c.args.stream.now c.loop-i.stream c.next.new.self c.next.result c.loop-i._i c.args.count (omega arith) c.loop-i.invariant c.in-None.is c.next.ensures

pub loop-i-preserved : goal.loop-i-preserved
loop-i-preserved c = takes_left c.loop-i.stream c.next.new.self c.next.result c.next.ensures ∙ ap (λ l. drop 1 l) c.loop-i.invariant ∙ drop_more c.args.stream.now c.loop-i._i 1 (c.loop-i._i + 1) refl
