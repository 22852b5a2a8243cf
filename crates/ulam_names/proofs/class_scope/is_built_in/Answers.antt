use Rattle.std.proofs.Common.{ap, ◌∙◌, is_some}
use Rattle.ulam_names.specs.Scopes.{built_in}
use Rattle.ulam_names.proofs.Members.{among_is}
use Rattle.ulam_names.proofs.class_scope.is_built_in.Goals as goal

pub returns : goal.returns
returns c = c.is_some.ensures ∙ ap is_some c.built_in.ensures ∙ among_is c.args.name.now built_in
