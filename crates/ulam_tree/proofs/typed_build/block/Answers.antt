use Rattle.ulam_tree.proofs.TypedRows.{typed_block_is}
use Rattle.ulam_tree.proofs.typed_build.block.Goals as goal

pub returns : goal.returns
returns c = typed_block_is c.args.body
