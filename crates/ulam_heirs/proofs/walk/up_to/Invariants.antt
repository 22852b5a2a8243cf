use Rattle.std.proofs.Common.{◌≡◌, ◌+◌, length}
use Rattle.ulam_heirs.specs.OpenedViews.{StaysOpen}
use Rattle.ulam_heirs.proofs.walk.up_to.Given as goal

abbrev pub invariant-turns : goal.invariant-turns
invariant-turns l = record {
  stays : StaysOpen l.initial.opened l.opened l.initial.line l.line;
  long : length l.line.items + l._turn ≡ length l.initial.line.items;
}
