use Rattle.std.proofs.Common.{◌≡◌, drop, length}
use Rattle.event_journal.specs.Merged.{concat}
use Rattle.report_text.proofs.Putting.{IsUnderway}
use Rattle.report_text.proofs.abreast.put_all.Given as goal

abbrev pub invariant-loop-k : goal.invariant-loop-k
invariant-loop-k g l = record {
  end : l.k-end ≡ length l.parts;
  same : drop l.k l.parts ≡ drop l.k l.fn.parts;
  underway : IsUnderway (g.K.Sink.state l.fn.sink) (g.K.Sink.state l.sink) l.fn.page l.page (concat (drop l.k l.fn.parts)) (concat l.fn.parts);
}
