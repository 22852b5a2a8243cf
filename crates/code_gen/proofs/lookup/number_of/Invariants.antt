use Rattle.std.proofs.Common.{◌≡◌, ◌+◌, ◌≤◌, map, take}
use Rattle.ulam_tree.specs.TypedViews.{typed_class}
use Rattle.ulam_meaning.specs.Programs.{count_elements}
use Rattle.code_gen.proofs.lookup.number_of.Given as goal

abbrev pub invariant-loop-k : goal.invariant-loop-k
invariant-loop-k l = record {
  counted : l.number ≡ count_elements (take l.k (map typed_class l.all));
  few : l.number ≤ l.k;
  within : l.k ≤ l.class + 1;
}
