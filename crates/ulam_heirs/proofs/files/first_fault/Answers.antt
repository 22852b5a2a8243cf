use Rattle.std.proofs.Common.{◌∙◌, sym}
use Rattle.ulam_heirs.specs.Views.{heirs_of}
use Rattle.ulam_heirs.proofs.Chains.{apart_from}
use Rattle.ulam_heirs.proofs.files.first_fault.Goals as goal

pub first_bad_override-requires-clause-apart : goal.first_bad_override-requires-clause-apart
first_bad_override-requires-clause-apart c = apart_from (heirs_of c.args.heirs.now) (sym c.in_ok-fault.ensures ∙ c.in_default-2.is)
