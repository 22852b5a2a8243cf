use Rattle.std.proofs.Common.{◌≡◌, ◌++◌, map, drop}
use Rattle.ulam_names.specs.Rounds.{leads_row}
use Rattle.ulam_names.specs.Shown.{head_of}
use Rattle.ulam_names.proofs.cycle.next_row.Given as goal

abbrev pub invariant-loop-class : goal.invariant-loop-class
invariant-loop-class l = leads_row l.row l.goal (map head_of l.classes) ≡ l.next.items ++ leads_row l.row l.goal (map head_of (drop l.class-index l.classes))
