use Rattle.std.proofs.Common.{◌≡◌, ◌++◌, map, drop}
use Rattle.ulam_tree.specs.RawViews.{item_of}
use Rattle.ulam_heirs.specs.Files.{heirs_in}
use Rattle.ulam_heirs.specs.Views.{heirs_of}
use Rattle.ulam_heirs.proofs.heir.add_file.Given as goal

abbrev pub invariant-loop-item : goal.invariant-loop-item
invariant-loop-item l = heirs_of l.initial.found.items ++ heirs_in l.heads (map item_of l.items) ≡ heirs_of l.found.items ++ heirs_in l.heads (map item_of (drop l.item-index l.items))
