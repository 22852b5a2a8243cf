use Rattle.ulam_tree.proofs.RawRows.{if_is}
use Rattle.ulam_tree.proofs.raw_build.if_so.Goals as goal

pub returns : goal.returns
returns c = if_is c.args.cond c.args.yes c.args.no
