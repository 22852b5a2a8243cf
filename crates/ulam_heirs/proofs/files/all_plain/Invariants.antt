use Rattle.std.proofs.Common.{◌≡◌, drop}
use Rattle.std.specs.List.{list_all}
use Rattle.ulam_heirs.specs.Files.{is_plain}
use Rattle.ulam_heirs.proofs.files.all_plain.Given as goal

abbrev pub invariant-loop-taken : goal.invariant-loop-taken
invariant-loop-taken l = list_all is_plain l.heads ≡ list_all is_plain (drop l.taken-index l.heads)
