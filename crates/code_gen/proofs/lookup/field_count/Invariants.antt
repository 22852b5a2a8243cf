use Rattle.std.proofs.Common.{◌≡◌, ◌+◌, ◌≤◌, map, length, drop}
use Rattle.ulam_tree.specs.TypedViews.{typed_member}
use Rattle.ulam_meaning.specs.Programs.{fields}
use Rattle.code_gen.proofs.lookup.field_count.Given as goal

abbrev pub invariant-loop-one : goal.invariant-loop-one
invariant-loop-one l = record {
  rest : l.count + length (fields (map typed_member (drop l.one-index l.all))) ≡ length (fields (map typed_member l.all));
  few : l.count ≤ l.one-index;
}
