use Rattle.ulam_tree.proofs.ResolvedRows.{resolved_call_is}
use Rattle.ulam_tree.proofs.resolved_build.call.Goals as goal

pub returns : goal.returns
returns c = resolved_call_is c.args.path c.args.args
