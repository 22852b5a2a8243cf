use Rattle.std.proofs.Common.{◌∙◌, sym}
use Rattle.ulam_names.specs.Rounds.{leads_by}
use Rattle.ulam_names.proofs.Rounds.{parts_on, parts_found}
use Rattle.ulam_names.proofs.cycle.fields_lead.Goals as goal

pub returns-then-field_leads : goal.returns-then-field_leads
returns-then-field_leads c =
    sym (c.loop-number.invariant ∙ parts_found (leads_by c.args.row.now c.args.goal) c.args.fields.now c.loop-number.number (sym c.field_leads.ensures ∙ c.if-field_leads.true))

pub loop-number-preserved : goal.loop-number-preserved
loop-number-preserved c =
    c.loop-number.invariant ∙ parts_on (leads_by c.args.row.now c.args.goal) c.args.fields.now c.loop-number.number (sym c.field_leads.ensures ∙ c.if-field_leads.false)
