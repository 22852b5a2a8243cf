use Rattle.std.proofs.Common.{◌≡◌, map}
use Rattle.ulam_names.specs.Rounds.{open_after}
use Rattle.ulam_names.specs.Shown.{head_of}
use Rattle.ulam_names.proofs.ways.may_be_cyclic.Given as goal

abbrev pub invariant-loop : goal.invariant-loop
invariant-loop l = l.row.items ≡ open_after l.counter (map head_of l.classes)
