use Rattle.ulam_tree.proofs.ResolvedRows.{resolved_for_is}
use Rattle.ulam_tree.proofs.resolved_build.for_all.Goals as goal

pub returns : goal.returns
returns c = resolved_for_is c.args.first c.args.cond c.args.step c.args.body
