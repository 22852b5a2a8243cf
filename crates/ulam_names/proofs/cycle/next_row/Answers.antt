use Rattle.std.proofs.Common.{Bool, [], ◌∷◌, ◌++◌, ap, ◌∙◌}
use Rattle.std.specs.List.{list_any}
use Rattle.ulam_names.specs.Rounds.{leads_by, field_parts}
use Rattle.ulam_names.specs.Scopes.{Head}
use Rattle.ulam_names.proofs.Rounds.{mark_on}
use Rattle.ulam_names.proofs.cycle.next_row.Goals as goal

pub loop-class-preserved : goal.loop-class-preserved
loop-class-preserved c =
    c.loop-class.invariant
    ∙ mark_on (λ (h : Head). list_any (leads_by c.args.row.now c.args.goal) (field_parts h.fields)) c.args.classes.now c.loop-class.class-index c.class-item.result c.loop-class.next.items c.push.new.self.items c.loop-class-test.true c.class-item.is
    (c.in_ok-push.ensures.items ∙ ap (λ (b : Bool). c.loop-class.next.items ++ (b ∷ [])) c.fields_lead.ensures)
