use Rattle.std.proofs.Common.{◌≡◌, map, drop}
use Rattle.ulam_names.specs.Classes as walk
use Rattle.ulam_tree.specs.RawViews as raw_view
use Rattle.ulam_names.proofs.class.file_names.Given as goal

abbrev pub invariant-loop-item : goal.invariant-loop-item
invariant-loop-item l = walk.class_names l.initial.known (map raw_view.item_of l.items) ≡ walk.class_names l.known (map raw_view.item_of (drop l.item-index l.items))
