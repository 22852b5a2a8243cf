use Rattle.std.proofs.Common.{◌≡◌, ◌≤◌, length, map, drop}
use Rattle.ulam_tree.specs.RawViews.{param_of}
use Rattle.ulam_heirs.specs.Faults as spec
use Rattle.ulam_heirs.proofs.same.same_params.Given as goal

abbrev pub invariant-loop-param : goal.invariant-loop-param
invariant-loop-param l = record {
  same : spec.same_params (map param_of l.a) (map param_of l.b) ≡ spec.same_params (map param_of (drop l.param-index l.a)) (map param_of (drop l.param-index l.b));
  index : l.index ≡ l.param-index;
  fits : l.index ≤ length l.b;
}
