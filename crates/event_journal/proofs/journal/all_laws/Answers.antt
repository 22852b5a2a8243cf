use Rattle.std.proofs.Common.{All, subst}
use Rattle.std.proofs.lemmas.List.{take_all}
use Rattle.std.proofs.lemmas.List.Elements.{All-more}
use Rattle.event_journal.specs.Logs.{IsLog}
use Rattle.event_journal.proofs.journal.all_laws.Goals as goal

pub loop-log-preserved : goal.loop-log-preserved
loop-log-preserved c = All-more IsLog c.args.logs.now c.loop-log.log-index c.log-item.result c.loop-log-test.true c.loop-log.invariant (subst IsLog c.log-item.is c.laws.ensures)

pub returns : goal.returns
returns c = subst (λ ls. All IsLog ls) (take_all c.loop-log.log-index c.args.logs.now c.loop-log-test.false) c.loop-log.invariant
