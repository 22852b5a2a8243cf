use Rattle.std.proofs.Common.{◌∙◌, ap, List, Bool, false, get_or}
use Rattle.ulam_names.proofs.Rounds.{holds_is}
use Rattle.ulam_names.proofs.cycle.holds_itself.Goals as goal

pub returns-clause-holds : goal.returns-clause-holds
returns-clause-holds c =
    c.mark.ensures
    ∙ ap (λ (r : List Bool). get_or r c.args.class false) c.as_slice.ensures.value
    ∙ holds_is c.args.classes.now c.in_ok-row.row.items c.args.class c.in_ok-row.ensures.row
