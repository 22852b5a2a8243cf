use Rattle.std.proofs.Common.{ap, ◌∙◌, refl}
use Rattle.ulam_tree.specs.declared.raw.Item.{Item}
use Rattle.ulam_tree.specs.Found.{with_front}
use Rattle.ulam_names.specs.ClassWalk as here
use Rattle.ulam_names.specs.Shown.{halves}
use Rattle.ulam_names.proofs.Faults.{passed_on, no_room}
use Rattle.ulam_names.proofs.class.item.Goals as goal

pub returns-in_err-half-in-Class : goal.returns-in_err-half-in-Class
returns-in_err-half-in-Class c = passed_on _ _ _ _ _ c.from_residual.ensures c.in_err-half-in-Class.ensures
    (λ f h. ap (λ (x : Item). with_front (halves c.args.found.now) (here.item c.args.known.now x)) c.in-Class.is ∙ rw h refl)

pub returns-in_err-push-in-Class : goal.returns-in_err-push-in-Class
returns-in_err-push-in-Class c = no_room _ _ _ c.from_residual-in_err-push-in-Class.ensures
