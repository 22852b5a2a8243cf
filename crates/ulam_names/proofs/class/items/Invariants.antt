use Rattle.std.proofs.Common.{◌≡◌, map, drop}
use Rattle.ulam_names.specs.Classes as walk
use Rattle.ulam_names.specs.Files.{all_items}
use Rattle.ulam_tree.specs.Found.{with_front}
use Rattle.ulam_names.specs.Shown.{half_class}
use Rattle.ulam_names.proofs.class.items.Given as goal

abbrev pub invariant-loop-file : goal.invariant-loop-file
invariant-loop-file l =
    walk.items l.known (all_items l.files)
    ≡ with_front (map half_class l.found.items) (walk.items l.known (all_items (drop l.file-index l.files)))
