use Rattle.std.proofs.Common.{◌∙◌}
use Rattle.ulam_heirs.specs.Views.{heirs_of}
use Rattle.ulam_heirs.proofs.Walks.{own_is}
use Rattle.ulam_heirs.proofs.check.is_own_base.Goals as goal

pub returns : goal.returns
returns c = c.leads_back.ensures ∙ own_is (heirs_of c.args.heirs.now) c.args.bases.now c.requires c.args.class
