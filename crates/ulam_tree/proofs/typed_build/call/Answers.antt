use Rattle.std.proofs.Common.{ap}
use Rattle.ulam_tree.specs.Typed.{typed}
use Rattle.ulam_tree.proofs.TypedRows.{typed_call_is}
use Rattle.ulam_tree.proofs.typed_build.call.Goals as goal

pub returns : goal.returns
returns c = ap (λ f. typed f c.args.ty) (typed_call_is c.args.path c.args.args)
