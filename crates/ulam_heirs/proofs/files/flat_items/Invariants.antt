use Rattle.std.proofs.Common.{◌≡◌, ◌+◌, ◌++◌, map, drop}
use Rattle.ulam_tree.specs.RawViews.{item_of}
use Rattle.ulam_heirs.specs.Files.{class_count, flat_items}
use Rattle.ulam_heirs.specs.Within.{cut_items}
use Rattle.ulam_heirs.specs.Views.{heirs_of}
use Rattle.ulam_heirs.proofs.files.flat_items.Given as goal

abbrev pub invariant-loop-item : goal.invariant-loop-item
invariant-loop-item l = record {
  flat : cut_items l.most (flat_items (heirs_of l.heirs) l.first (map item_of l.items)) ≡ map item_of l.found.items ++ cut_items l.most (flat_items (heirs_of l.heirs) l.number (map item_of (drop l.item-index l.items)));
  next : l.number + class_count (map item_of (drop l.item-index l.items)) ≡ l.first + class_count (map item_of l.items);
}
