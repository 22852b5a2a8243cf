use Rattle.world_text.specs.Values.{world_value}
use Rattle.generated_world.proofs.Fits.{fits_by}
use Rattle.generated_world.proofs.world.world_of_number.Goals as goal

pub returns-clause-world : goal.returns-clause-world
returns-clause-world c = fits_by c.args.number (world_value c.in_ok-world.world) c.in_ok-world.ensures
