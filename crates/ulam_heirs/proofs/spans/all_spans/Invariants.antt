use Rattle.std.proofs.Common.{◌≡◌, take}
use Rattle.ulam_heirs.specs.Spans.{AreSpans}
use Rattle.ulam_heirs.specs.Views.{heirs_of}
use Rattle.ulam_heirs.proofs.spans.all_spans.Given as goal

abbrev pub invariant-loop-heir : goal.invariant-loop-heir
invariant-loop-heir l = record {
  spans : AreSpans l.spans.entries (heirs_of (take l.heir-index l.line));
  index : l.index ≡ l.heir-index;
}
