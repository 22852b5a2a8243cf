use Rattle.ulam_names.proofs.Apart.{none_contains}
use Rattle.ulam_names.proofs.ClassFits.{one_program}
use Rattle.ulam_names.proofs.ClassMeans.{some_resolution, no_fault}
use Rattle.ulam_names.proofs.law.one_resolution.Goals as goal

pub returns : goal.returns
returns c = record { some = some_resolution; none = no_fault; one = one_program; apart = none_contains }
