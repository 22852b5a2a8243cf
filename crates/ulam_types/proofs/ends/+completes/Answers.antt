use Rattle.std.proofs.Common.{refl, rules, arith}
use Rattle.std.proofs.lemmas.Grind.{common_steps}
use Rattle.ulam_types.proofs.Slots.{block_completes}
use Rattle.ulam_types.proofs.ends.+completes.Goals as goal

pub completes-returns-in-Block : goal.completes-returns-in-Block
completes-returns-in-Block t c =
    let e = block_completes c.args.raw.now c.in-Block.body c.in-Block.is in
    rw e (first_of (search rules, grind (arith, common_steps)))

pub part_completes-returns-in-None : goal.part_completes-returns-in-None
part_completes-returns-in-None t c = rw c.in-None.is refl
