use Rattle.ulam_tree.proofs.TypedRows.{typed_if_is}
use Rattle.ulam_tree.proofs.typed_build.if_so.Goals as goal

pub returns : goal.returns
returns c = typed_if_is c.args.cond c.args.yes c.args.no
