use Rattle.std.proofs.Common.{rules, arith}
use Rattle.std.proofs.lemmas.Grind.{common_steps}
use Rattle.code_gen.proofs.Blocks.{block_at}
use Rattle.code_gen.proofs.calls.+calls.Goals as goal

pub add_calls-returns-in-Block : goal.add_calls-returns-in-Block
add_calls-returns-in-Block t c =
    let e = block_at c.args.piece.now c.in-Block.list c.in-Block.is in
    rw e (first_of (search rules, grind (arith, common_steps)))
