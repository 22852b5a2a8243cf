use Rattle.std.proofs.Common.{◌≡◌, ◌++◌, map, drop}
use Rattle.ulam_names.specs.Rounds.{open_row}
use Rattle.ulam_names.specs.Shown.{head_of}
use Rattle.ulam_names.proofs.ways.next_open.Given as goal

abbrev pub invariant-loop-class : goal.invariant-loop-class
invariant-loop-class l = open_row l.row (map head_of l.classes) ≡ l.next.items ++ open_row l.row (map head_of (drop l.class-index l.classes))
