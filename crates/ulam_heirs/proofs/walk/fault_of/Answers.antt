use Rattle.ulam_heirs.specs.Views.{heir_of}
use Rattle.ulam_heirs.proofs.Walking.{joined}
use Rattle.ulam_heirs.proofs.walk.fault_of.Goals as goal

pub returns-in-Some : goal.returns-in-Some
returns-in-Some c = c.requires.found c.args.class (heir_of c.args.heir.now) c.in-Some.fault c.requires.heir (joined _ c.in-Some.fault c.in-Some.ensures)
