use Rattle.stepped_world.proofs.Finishing.{each_done}
use Rattle.stepped_world.proofs.law.comes_to_its_end.Goals as goal

pub returns : goal.returns
returns g = each_done
