use Rattle.std.proofs.Common.{◌≡◌, ◌++◌, drop}
use Rattle.ulam_heirs.specs.Files.{all_heirs}
use Rattle.ulam_heirs.specs.Views.{heirs_of, files_of}
use Rattle.ulam_heirs.proofs.heir.all_heirs.Given as goal

abbrev pub invariant-loop-file : goal.invariant-loop-file
invariant-loop-file l = record {
  found : all_heirs (files_of l.files) l.heads ≡ heirs_of l.found.items ++ all_heirs (files_of (drop l.file-index l.files)) (drop l.file-index l.heads);
  index : l.index ≡ l.file-index;
}
