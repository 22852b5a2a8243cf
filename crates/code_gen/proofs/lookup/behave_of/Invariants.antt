use Rattle.std.proofs.Common.{◌≡◌, ◌+◌, ◌≤◌, map, drop, codes}
use Rattle.ulam_tree.specs.TypedViews.{typed_member}
use Rattle.ulam_meaning.specs.Programs.{functions, number_named}
use Rattle.code_gen.proofs.lookup.behave_of.Given as goal

abbrev pub invariant-loop-one : goal.invariant-loop-one
invariant-loop-one l = record {
  rest : l.number + number_named (codes "behave") (functions (map typed_member (drop l.one-index l.all))) ≡ number_named (codes "behave") (functions (map typed_member l.all));
  few : l.number ≤ l.one-index;
}
