use Rattle.std.proofs.Common.{◌≡◌, ◌-◌, ◌≤◌, ◌⊎◌, length}
use Rattle.ulam_heirs.specs.Opened.{back}
use Rattle.ulam_heirs.specs.OpenedViews.{state_of}
use Rattle.ulam_heirs.proofs.opened.back_to.Given as goal

abbrev pub invariant-turns : goal.invariant-turns
invariant-turns l = record {
  state : state_of l.opened ≡ back (state_of l.initial.opened) (length l.initial.opened.changes.items - (l._turn - l.end));
  after : l.end ≤ l._turn;
  within : (l._turn ≤ length l.initial.opened.changes.items) ⊎ (l._turn ≡ l.end);
}
