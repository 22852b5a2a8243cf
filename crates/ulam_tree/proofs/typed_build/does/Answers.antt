use Rattle.ulam_tree.proofs.TypedRows.{typed_does_is}
use Rattle.ulam_tree.proofs.typed_build.does.Goals as goal

pub returns : goal.returns
returns c = typed_does_is c.args.path c.args.args
