use Rattle.std.proofs.Common.{◌≡◌, map, drop}
use Rattle.ulam_names.specs.Classes as walk
use Rattle.ulam_tree.specs.Found.{with_front}
use Rattle.ulam_names.specs.Shown.{half_class}
use Rattle.ulam_tree.specs.RawViews as raw_view
use Rattle.ulam_names.proofs.class.file_items.Given as goal

abbrev pub invariant-loop-one : goal.invariant-loop-one
invariant-loop-one l =
    with_front (map half_class l.initial.found.items) (walk.items l.known (map raw_view.item_of l.raw))
    ≡ with_front (map half_class l.found.items) (walk.items l.known (map raw_view.item_of (drop l.one-index l.raw)))
