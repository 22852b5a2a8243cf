use Rattle.std.proofs.Common.{◌≡◌, ◌+◌, ◌++◌, drop}
use Rattle.ulam_heirs.specs.Files.{all_count, flat_files_from}
use Rattle.ulam_heirs.specs.Within.{cut_files}
use Rattle.ulam_heirs.specs.Views.{heirs_of, files_of}
use Rattle.ulam_heirs.proofs.files.flat_files.Given as goal

abbrev pub invariant-loop-file : goal.invariant-loop-file
invariant-loop-file l = record {
  flat : cut_files l.most (flat_files_from (heirs_of l.heirs) 0 (files_of l.files)) ≡ files_of l.found.items ++ cut_files l.most (flat_files_from (heirs_of l.heirs) l.number (files_of (drop l.file-index l.files)));
  next : l.number + all_count (files_of (drop l.file-index l.files)) ≡ all_count (files_of l.files);
}
