use Rattle.std.proofs.Common.{sym, ap}
use Rattle.ulam_names.specs.Classes.{is_behave}
use Rattle.ulam_names.specs.Shown.{half_of}
use Rattle.ulam_names.specs.declared.half.Half.{Half}
use Rattle.ulam_names.proofs.whole.is_behave.Goals as goal

pub returns-in-Field : goal.returns-in-Field
returns-in-Field c = sym (ap (λ (m : Half). is_behave (half_of m)) c.in-Field.is)
