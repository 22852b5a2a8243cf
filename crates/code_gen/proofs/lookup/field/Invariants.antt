use Rattle.std.proofs.Common.{◌≡◌, map, drop}
use Rattle.std.specs.Prelude.{slice_index_or}
use Rattle.ulam_tree.specs.TypedViews.{typed_member}
use Rattle.ulam_meaning.specs.Programs.{fields, no_field}
use Rattle.code_gen.proofs.lookup.field.Given as goal

abbrev pub invariant-loop-one : goal.invariant-loop-one
invariant-loop-one l = slice_index_or (fields (map typed_member (drop l.one-index l.all))) l.left no_field ≡ slice_index_or (fields (map typed_member l.all)) l.member no_field
