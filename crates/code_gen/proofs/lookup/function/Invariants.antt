use Rattle.std.proofs.Common.{◌≡◌, map, drop}
use Rattle.std.specs.Prelude.{slice_index_or}
use Rattle.ulam_tree.specs.TypedViews.{typed_member}
use Rattle.ulam_meaning.specs.Programs.{functions, no_function}
use Rattle.code_gen.proofs.lookup.function.Given as goal

abbrev pub invariant-loop-one : goal.invariant-loop-one
invariant-loop-one l = slice_index_or (functions (map typed_member (drop l.one-index l.all))) l.left no_function ≡ slice_index_or (functions (map typed_member l.all)) l.number no_function
