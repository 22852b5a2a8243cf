use Rattle.std.proofs.Common.{◌≡◌, ◌≤◌, ◌+◌, drop, take, length}
use Rattle.ulam_names.specs.Walk as walk
use Rattle.ulam_names.specs.Shown.{scope_of, context_of, with_body}
use Rattle.ulam_tree.specs.RawViews as raw_view
use Rattle.ulam_names.proofs.statement.+statement.Given as goal

abbrev pub invariant-body-loop-one : goal.invariant-body-loop-one
invariant-body-loop-one l = record {
  gives :
      walk.body (context_of l.context) (scope_of l.initial.entries.items l.from) l.slot (raw_view.body_list l.raw)
      ≡ with_body l.found.items (walk.body (context_of l.context) (scope_of l.entries.items l.from) l.next (raw_view.body_list (drop l.one-index l.raw)));
  next : l.next + walk.locals_in (raw_view.body_list (drop l.one-index l.raw)) ≡ l.slot + walk.locals_in (raw_view.body_list l.raw);
  few : l.next ≤ l.context.params + 64;
  long : length l.initial.entries.items ≤ length l.entries.items;
  kept : take (length l.initial.entries.items) l.entries.items ≡ l.initial.entries.items;
}
