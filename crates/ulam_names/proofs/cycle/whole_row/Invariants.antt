use Rattle.std.proofs.Common.{◌≡◌, map}
use Rattle.ulam_names.specs.Rounds.{row_after}
use Rattle.ulam_names.specs.Shown.{head_of}
use Rattle.ulam_names.proofs.cycle.whole_row.Given as goal

abbrev pub invariant-loop : goal.invariant-loop
invariant-loop l = l.row.items ≡ row_after l.counter (map head_of l.classes) l.goal
