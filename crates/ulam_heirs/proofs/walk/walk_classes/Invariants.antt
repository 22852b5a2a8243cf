use Rattle.ulam_heirs.specs.OpenedViews.{IsWalk}
use Rattle.ulam_heirs.specs.Views.{heirs_of}
use Rattle.ulam_heirs.proofs.walk.walk_classes.Given as goal

abbrev pub invariant-loop-class : goal.invariant-loop-class
invariant-loop-class l = IsWalk (heirs_of l.heirs) l.walk
