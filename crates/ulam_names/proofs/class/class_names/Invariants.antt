use Rattle.std.proofs.Common.{◌≡◌, [], drop}
use Rattle.ulam_names.specs.Classes as walk
use Rattle.ulam_names.specs.Files.{all_items}
use Rattle.ulam_names.proofs.class.class_names.Given as goal

abbrev pub invariant-loop-file : goal.invariant-loop-file
invariant-loop-file l = walk.class_names [] (all_items l.files) ≡ walk.class_names l.known (all_items (drop l.file-index l.files))
