use Rattle.std.proofs.Common.{arith}
use Rattle.std.proofs.lemmas.Grind.{common_steps}
use Rattle.world_text.specs.Drafts.{in_range, too_many}
use Rattle.world_text.proofs.step.put.Goals as goal

pub put_try-requires-clause-tile : goal.put_try-requires-clause-tile
unfolding in_range too_many
put_try-requires-clause-tile c = grind (arith, common_steps)

pub put_try-requires-clause-site : goal.put_try-requires-clause-site
unfolding in_range too_many
put_try-requires-clause-site c = grind (arith, common_steps)

pub put_try-requires-clause-few : goal.put_try-requires-clause-few
unfolding in_range too_many
put_try-requires-clause-few c = grind (arith, common_steps)

pub put_tiles-requires : goal.put_tiles-requires
unfolding in_range too_many
put_tiles-requires c = grind (arith, common_steps)

pub put_order-requires-clause-tiles : goal.put_order-requires-clause-tiles
unfolding in_range too_many
put_order-requires-clause-tiles c = grind (arith, common_steps)
