use Rattle.std.proofs.Common.{take}
use Rattle.ulam_heirs.specs.Opened.{Covers}
use Rattle.ulam_heirs.specs.OpenedViews.{state_of}
use Rattle.ulam_heirs.specs.Views.{heirs_of}
use Rattle.ulam_heirs.proofs.walk.open_line.Given as goal

abbrev pub invariant-loop-heir : goal.invariant-loop-heir
invariant-loop-heir l = Covers (heirs_of (take l.heir-index l.line)) (state_of l.opened).table
