use Rattle.std.proofs.Common.{◌≡◌, ◌++◌, length, map, take, drop}
use Rattle.ulam_tree.specs.RawViews.{shared_member}
use Rattle.ulam_heirs.specs.Flat.{flat, flat_behind}
use Rattle.ulam_heirs.specs.Within.{first_of, IsWithin}
use Rattle.ulam_heirs.specs.Views.{heirs_of}
use Rattle.ulam_heirs.proofs.flat.flat.Given as goal

abbrev pub invariant-loop-heir : goal.invariant-loop-heir
invariant-loop-heir l = record {
  flat : first_of l.most (flat (heirs_of l.line)) ≡ first_of l.most (map shared_member l.found.items ++ flat_behind (heirs_of (take l.heir-index l.line)) (heirs_of (drop l.heir-index l.line)));
  few : IsWithin l.most (length l.found.items);
  index : l.index ≡ l.heir-index;
}
