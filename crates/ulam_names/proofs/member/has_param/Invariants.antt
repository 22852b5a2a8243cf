use Rattle.std.proofs.Common.{◌≡◌, drop}
use Rattle.ulam_names.specs.Scopes.{is_among}
use Rattle.ulam_names.specs.Shown.{param_names}
use Rattle.ulam_names.proofs.member.has_param.Given as goal

abbrev pub invariant-loop-param : goal.invariant-loop-param
invariant-loop-param l = is_among l.name (param_names l.params) ≡ is_among l.name (param_names (drop l.param-index l.params))
