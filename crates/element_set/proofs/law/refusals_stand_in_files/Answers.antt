use Rattle.fault_places.proofs.Standing.{stands_numbered}
use Rattle.element_set.proofs.Standing.{refused_stands}
use Rattle.element_set.proofs.law.refusals_stand_in_files.Goals as goal

pub returns : goal.returns
returns c = record { place = refused_stands; numbers = λ files r h. stands_numbered files r.place (refused_stands files r h) }
