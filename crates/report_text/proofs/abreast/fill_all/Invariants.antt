use Rattle.std.proofs.Common.{◌≡◌, ◌++◌, length, take}
use Rattle.event_journal.specs.Merged.{concat}
use Rattle.report_text.specs.Details.{rest_text}
use Rattle.report_text.proofs.abreast.fill_all.Given as goal

abbrev pub invariant-loop-k : goal.invariant-loop-k
invariant-loop-k l = record {
  end : l.k-end ≡ length l.parts;
  text : rest_text l.detail l.fn.walk ≡ concat (take l.k l.parts) ++ rest_text l.detail l.walk;
}
