use Rattle.std.proofs.Common.{◌∙◌, sym}
use Rattle.ulam_names.specs.Rounds.{open_by}
use Rattle.ulam_names.proofs.Rounds.{parts_on, parts_found}
use Rattle.ulam_names.proofs.ways.fields_open.Goals as goal

pub returns-then-field_open : goal.returns-then-field_open
returns-then-field_open c =
    sym (c.loop-number.invariant ∙ parts_found (open_by c.args.row.now) c.args.fields.now c.loop-number.number (sym c.field_open.ensures ∙ c.if-field_open.true))

pub loop-number-preserved : goal.loop-number-preserved
loop-number-preserved c =
    c.loop-number.invariant ∙ parts_on (open_by c.args.row.now) c.args.fields.now c.loop-number.number (sym c.field_open.ensures ∙ c.if-field_open.false)
